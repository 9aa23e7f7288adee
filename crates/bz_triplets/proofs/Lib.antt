pub mod Choosing
pub mod Sums
pub mod Walking
pub mod ByClass
pub mod Measured
pub mod CallOutcome
pub mod Agreeing
pub mod ReadRefusals
mod Examples
