pub mod Filter
pub mod Claims
pub mod Numbers
