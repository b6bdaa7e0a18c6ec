pub mod Dedup
pub mod Intervals
pub mod Visible
