pub mod Chained
pub mod Command
pub mod Expression
pub mod Number
pub mod inner
