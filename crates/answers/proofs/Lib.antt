pub mod Entries
pub mod ToldFits
