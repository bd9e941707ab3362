pub mod Ranges
pub mod Claims
