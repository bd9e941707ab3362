pub mod Memory
pub mod Node
pub mod Writing
pub mod Claims
