pub mod ArithmeticLaws
pub mod Decs
pub mod DecForms
pub mod DecReadings
mod Divisions
mod Exacts
mod Levels
pub mod NumberReadings
pub mod NumberTexts
mod Orders
pub mod PrintedTexts
mod Products
mod QuickDigits
mod ReadNumbers
mod Readers
pub mod Roundings
pub mod SampleDigits
mod SampleForms
pub mod SampleReadings
pub mod SampleTexts
mod Sizes
mod Spellings
mod Sums
mod Wholes
mod WordLaws
