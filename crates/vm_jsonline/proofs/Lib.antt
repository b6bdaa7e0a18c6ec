mod Bare
mod KeyLaws
pub mod LineLaws
mod Loops
mod PairLaws
mod PartLaws
mod Prints
pub mod StringLaws
mod Times
mod ValueLaws
