mod ItemLaws
mod NameLaws
mod NumberLaws
mod PrinterLaws
mod SpelledLaws
mod TextLaws
