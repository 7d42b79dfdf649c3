pub mod Kinds
pub mod Forms
pub mod Faults
pub mod Outcomes
pub mod States
