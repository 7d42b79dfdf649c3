pub mod Divisors
pub mod Multiples
pub mod Answered
mod Running
mod Examples
