pub mod Decimal
pub mod Claims
pub mod Puts
