pub mod Batches
pub mod Eval
pub mod Found
pub mod Machine
pub mod Window
pub mod inner
