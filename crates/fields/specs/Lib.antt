pub mod Wanted
pub mod Values
pub mod Pieces
