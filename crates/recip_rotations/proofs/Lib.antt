pub mod Same
pub mod Among
pub mod Pasted
pub mod Blocks
pub mod Distinct
pub mod Counting
pub mod Negated
pub mod Outcomes
pub mod Joining
pub mod Sizes
pub mod Grouping
pub mod Answered
pub mod ToldPart
pub mod Room
pub mod Told
mod Examples
