pub mod Then
pub mod Gcd
pub mod Elementary
pub mod Columns
pub mod Stages
pub mod Finalize
pub mod Pivot
pub mod Code
