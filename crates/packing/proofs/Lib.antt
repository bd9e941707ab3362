pub mod Bit
pub mod Claims
pub mod RoundTrip
pub mod Frame
pub mod Negation
pub mod Places
pub mod Values
pub mod Windows
