pub mod Kinds
pub mod Agreement
pub mod Floats
pub mod Claims
pub mod FloatRows
