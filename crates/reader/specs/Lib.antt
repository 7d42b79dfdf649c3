pub mod Tokens
pub mod Progress
pub mod Lines
