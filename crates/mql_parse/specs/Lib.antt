pub mod Faults
pub mod Grammar
pub mod Machine
pub mod Values
pub mod inner
