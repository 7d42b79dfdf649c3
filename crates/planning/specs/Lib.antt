pub mod Planning
pub mod Walk
