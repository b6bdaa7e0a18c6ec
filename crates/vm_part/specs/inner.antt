pub mod Making
pub mod Merging
pub mod Reading
pub mod Standing
