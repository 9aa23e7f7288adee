pub mod Unique
pub mod Flat
pub mod PointGroup
pub mod Code
