pub mod Answers
pub mod Calls
pub mod Load
pub mod Sound
pub mod Claims
