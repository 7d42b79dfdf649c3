pub mod Passed
pub mod Stalled
pub mod Settling
pub mod Ended
