pub mod Grammar
pub mod Means
pub mod Outcome
pub mod Quoted
pub mod Reading
pub mod Utf8
pub mod inner
