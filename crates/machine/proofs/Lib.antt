pub mod Sums
pub mod Weight
pub mod Enter
pub mod Tick
pub mod Fresh
pub mod Calls
pub mod Places
pub mod Row
pub mod Steps
pub mod Readings
pub mod Simulation
pub mod Bridge
mod Examples
pub mod Runs
pub mod Lengths
pub mod Plans
pub mod Assigning
