pub mod Instances
pub mod Loops
pub mod Rounds
