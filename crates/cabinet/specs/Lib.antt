pub mod States
pub mod Calls
pub mod Reached
pub mod Cabinets
