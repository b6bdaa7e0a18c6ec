pub mod InRange
pub mod Put
