pub mod Means
pub mod Parts
pub mod Print
pub mod Reading
pub mod Series
pub mod Strings
pub mod inner
