pub mod Feeding
pub mod Front
pub mod Laws
pub mod Memory
pub mod Pieces
pub mod Runs
pub mod Writing
