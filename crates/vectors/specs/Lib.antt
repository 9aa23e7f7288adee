pub mod Line
pub mod Words
pub mod Matched
pub mod Counted
