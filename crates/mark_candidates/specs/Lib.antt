pub mod InnerProducts
pub mod ScaledCoordinates
pub mod MarkCandidates
pub mod CertainMarks
pub mod Code
