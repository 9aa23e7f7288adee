pub mod Snf3x3
pub mod Written
pub mod Diagonalises
pub mod FewRounds
