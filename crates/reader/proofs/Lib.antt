pub mod Bits
pub mod Carried
pub mod Reading
