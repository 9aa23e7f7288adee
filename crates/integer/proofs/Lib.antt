pub mod Test
pub mod Ring
pub mod Polynomial
pub mod Reify
pub mod Parts
pub mod Order
pub mod Size
pub mod Plain
pub mod Division
pub mod Divides
pub mod Congruence
pub mod Fits
pub mod Same
pub mod Quotient
pub mod Answer
mod Examples
