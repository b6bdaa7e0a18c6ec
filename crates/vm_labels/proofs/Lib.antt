mod BrokenLaws
pub mod BuildLaws
mod BytesLaws
pub mod ChangeLaws
pub mod OrderLaws
pub mod ReadLaws
mod ReadLoop
mod Rows
mod TextLaws
