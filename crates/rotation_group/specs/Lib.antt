pub mod Group
pub mod ReciprocalGroup
pub mod Code
