pub mod Repeats
pub mod IsGroup
pub mod Walking
pub mod Small
pub mod Marks
pub mod Accepted
pub mod Outcome
pub mod Exactly
mod Examples
