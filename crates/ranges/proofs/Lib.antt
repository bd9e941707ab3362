pub mod Lowest
pub mod Own
pub mod Walk
pub mod Ways
