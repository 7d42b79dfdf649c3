pub mod Plans
pub mod Answers
pub mod Promises
