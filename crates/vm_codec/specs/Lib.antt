pub mod Coding
pub mod Integer
pub mod inner
