pub mod Runs
pub mod Rows
pub mod Laws
pub mod Claims
