pub mod Bytes
pub mod Index
pub mod Numbers
pub mod Reading
pub mod Texts
pub mod Whole
pub mod inner
