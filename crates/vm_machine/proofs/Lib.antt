pub mod BatchLaws
pub mod FoundLaws
mod MapLaws
mod RunLaws
mod SeriesLaws
mod ValueLaws
