pub mod Patterns
pub mod Rounding
pub mod Running
pub mod Claims
pub mod Rows
