pub mod Broken
pub mod Files
pub mod Part
pub mod Said
pub mod inner
