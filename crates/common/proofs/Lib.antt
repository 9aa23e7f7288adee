pub mod Matrix
pub mod Unimodular
pub mod Filled
pub mod Stored
pub mod Bounds
pub mod Tests
pub mod Every
pub mod Whole
pub mod Sized
pub mod Nine
pub mod Reading
mod Examples
pub mod RefusedBy
pub mod Same
