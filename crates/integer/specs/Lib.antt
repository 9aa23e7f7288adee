pub mod Parts
pub mod Division
pub mod Divides
pub mod Checked
pub mod Same
