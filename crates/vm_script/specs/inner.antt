pub mod Digit
pub mod Front
