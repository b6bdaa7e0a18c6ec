pub mod Feeds
pub mod Lines
pub mod Reading
pub mod inner
