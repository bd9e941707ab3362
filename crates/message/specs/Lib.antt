pub mod Messages
pub mod Fields
pub mod Claims
pub mod FloatRows
