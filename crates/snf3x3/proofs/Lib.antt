pub mod Passes
pub mod Signs
pub mod Diagonal
pub mod FailedRound
pub mod FewRounds
pub mod Examples
