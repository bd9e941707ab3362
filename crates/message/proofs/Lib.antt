pub mod Held
pub mod FloatRows
pub mod Passed
pub mod FilterWords
pub mod Claims
