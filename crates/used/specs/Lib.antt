pub mod Used
pub mod Claims
