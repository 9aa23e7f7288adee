pub mod Choosing
pub mod BzTriplets
pub mod Agreeing
pub mod Code
