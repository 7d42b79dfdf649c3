pub mod Slots
pub mod Machine
pub mod Watch
pub mod Schedulable
pub mod Law
pub mod Agreement
pub mod Choosing
pub mod Assigning
