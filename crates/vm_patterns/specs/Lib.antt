pub mod MemPatterns
pub mod Patterns
pub mod inner
