pub mod TestLaws
pub mod Flags
pub mod OneCore
pub mod TwoCores
pub mod Worked
