pub mod Fields
pub mod Fits
pub mod ReadBack
mod Putting
mod Counting
mod Placing
mod Filling
mod Calling
mod Examples
