pub mod Table
pub mod Many
pub mod Rows
