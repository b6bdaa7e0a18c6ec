mod Endings
mod Falls
mod FromRead
mod Held
pub mod Limits
mod Moves
mod Openings
mod Parts
pub mod ReadingLaws
mod Sums
mod ToRead
mod TokenPlaces
mod Turns
pub mod Viable
mod WordKinds
