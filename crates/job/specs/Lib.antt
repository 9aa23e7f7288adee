pub mod Job
pub mod FormerReading
pub mod Listing
pub mod Writing
