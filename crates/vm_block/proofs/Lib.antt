pub mod Blocks
pub mod Cuts
mod Exponents
pub mod Headers
pub mod Rereading
mod Mantissas
pub mod OneCut
mod Orders
mod Stamps
pub mod Writing
