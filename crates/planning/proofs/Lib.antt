pub mod Measure
pub mod Moves
pub mod Next
pub mod Descent
pub mod Retreat
pub mod Start
