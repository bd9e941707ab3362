pub mod Lists
pub mod Tables
pub mod Owners
pub mod Stretches
pub mod Starts
pub mod Claims
pub mod Ahead
