pub mod Told
pub mod GcdTold
