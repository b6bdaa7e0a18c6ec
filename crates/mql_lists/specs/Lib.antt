pub mod Classes
pub mod Grammar
pub mod Laws
pub mod Machines
pub mod Progress
pub mod Values
pub mod Words
