pub mod Start
pub mod Counts
