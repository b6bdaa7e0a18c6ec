mod FaultLaws
mod NamesLaws
pub mod PartedLaws
mod TreeLaws
