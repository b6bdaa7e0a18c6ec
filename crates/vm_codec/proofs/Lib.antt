pub mod Broken
mod Chosen
mod Columns
mod Groups
mod Integers
pub mod Spellings
mod Steps
mod Values
pub mod Whole
mod Written
