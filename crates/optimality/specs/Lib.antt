pub mod Tests
pub mod Beginnings
pub mod Meanings
