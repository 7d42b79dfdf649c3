mod Tokens
mod Counted
mod Digits
mod Pieces
mod Lines
pub mod Shaped
