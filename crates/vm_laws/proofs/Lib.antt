mod NumberTexts
mod PrintLaws
mod PrintedSamples
mod QuotedLaws
