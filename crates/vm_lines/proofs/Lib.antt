mod HeldLaws
pub mod LineLaws
mod LongLines
pub mod ReadingLaws
mod Steps
