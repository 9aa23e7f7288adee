pub mod Partner
pub mod Classes
pub mod IrTriplets
