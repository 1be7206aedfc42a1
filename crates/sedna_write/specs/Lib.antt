pub mod Pairs
pub mod Writing
pub mod inner
