mod GroupLaws
mod Lists
pub mod SeriesLaws
