pub mod OnCore
pub mod Places
pub mod Costs
