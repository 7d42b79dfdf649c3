pub mod Ranges
pub mod Limits
pub mod Steps
pub mod Points
pub mod Choose
pub mod Dynamic
pub mod Walk
mod Reach
