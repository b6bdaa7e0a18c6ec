pub mod Broken
pub mod Bytes
pub mod Labels
pub mod Name
pub mod Selected
pub mod Text
pub mod Ties
