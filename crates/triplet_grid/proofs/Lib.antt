pub mod Keeping
pub mod Swapping
pub mod Reciprocal
pub mod Outcome
pub mod Joining
pub mod Stabilizer
mod Examples
