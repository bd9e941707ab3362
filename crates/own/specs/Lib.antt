pub mod Own
pub mod Ahead
pub mod SoundLayout
pub mod Claims
