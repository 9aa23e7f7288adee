pub mod ImageBounds
pub mod Runs
pub mod Layouts
pub mod Mapped
pub mod Kept
pub mod Turns
pub mod Outcome
pub mod Accepted
mod Examples
pub mod KnownSizes
