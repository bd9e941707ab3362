pub mod Places
pub mod Values
pub mod Window
pub mod Claims
