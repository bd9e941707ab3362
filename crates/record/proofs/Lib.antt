pub mod Own
pub mod Searches
pub mod Tests
