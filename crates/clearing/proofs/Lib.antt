pub mod Refusing
pub mod Rows
pub mod Regions
pub mod Searching
