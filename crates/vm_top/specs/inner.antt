pub mod Asked
pub mod Playing
pub mod Reading
pub mod Said
