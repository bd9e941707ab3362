pub mod Tables
pub mod Counts
pub mod Selected
pub mod Index
pub mod Placing
pub mod Regions
