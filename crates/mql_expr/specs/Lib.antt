pub mod Arguments
pub mod Canonical
pub mod Check
pub mod Kinds
pub mod Levels
pub mod Names
pub mod Spans
pub mod Tree
