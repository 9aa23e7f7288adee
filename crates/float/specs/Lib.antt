pub mod Value
pub mod Rounding
pub mod Sqrt
pub mod CorrectRounding
