pub mod EdfSteps
pub mod DemandLine
pub mod Slacks
pub mod Ordered
pub mod Found
pub mod More
