pub mod Accepted
pub mod ExactMatrix
pub mod ExactEntries
pub mod ExactCall
pub mod ExactTransform
mod Found
mod Turns
mod Examples
