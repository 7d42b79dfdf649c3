pub mod Steps
pub mod Runs
pub mod Reach
pub mod Stuck
pub mod Same
pub mod Exactly
