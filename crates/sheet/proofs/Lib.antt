mod Shortened
mod Stepping
mod Granting
pub mod Once
