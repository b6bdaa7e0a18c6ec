pub mod Block
pub mod Cut
pub mod Header
pub mod Written
pub mod inner
