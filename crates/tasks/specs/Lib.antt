pub mod Refusals
pub mod Tasks
pub mod Cuts
pub mod Stored
pub mod Tables
