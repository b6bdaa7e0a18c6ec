mod Accepts
mod Grammars
mod Nestings
mod Places
mod Symbols
pub mod Texts
