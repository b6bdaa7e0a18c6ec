pub mod Lexed
pub mod ReadBack
