pub mod Refused
pub mod Examined
pub mod Clearing
