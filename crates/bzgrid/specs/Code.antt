pub mod Walked
pub mod Writing
