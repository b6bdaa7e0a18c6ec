pub mod Division
pub mod Exact
pub mod Leading
pub mod Quick
pub mod Reader
