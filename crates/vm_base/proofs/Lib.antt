mod Noughts
pub mod NumberLaws
pub mod RoundingLaws
pub mod RunLaws
mod SampleForms
pub mod SampleLaws
pub mod SortedLaws
pub mod StampedLaws
