pub mod Table
pub mod BzGridAddresses
pub mod KnownSizes
pub mod Code
