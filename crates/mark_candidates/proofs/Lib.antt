pub mod CornerTest
pub mod LowestHighest
pub mod Words
pub mod Rounding
pub mod Counted
pub mod Listed
pub mod PointSizes
pub mod TableEntries
pub mod TableMarks
pub mod Limits
pub mod AcceptedCall
pub mod CandidateAddress
mod Examples
