pub mod Changed
pub mod Indexing
pub mod Reaching
pub mod Plans
mod Chosen
