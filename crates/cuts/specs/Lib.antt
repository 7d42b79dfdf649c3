pub mod Regions
pub mod Walk
pub mod Orders
pub mod Allowed
pub mod Best
pub mod Dynamic
pub mod Reach
