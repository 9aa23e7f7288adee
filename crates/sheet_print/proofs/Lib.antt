pub mod Codes
pub mod Chain
pub mod Laid
pub mod Printed
