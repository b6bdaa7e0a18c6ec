mod Durations
mod FromRead
pub mod Moves
mod Numbers
pub mod Outcomes
mod Reaches
pub mod Spans
mod Texts
mod ToRead
