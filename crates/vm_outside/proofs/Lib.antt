mod Pieces
pub mod Streams
mod RecordLaws
