mod Lists
mod Words
pub mod FormerReading
pub mod Sections
pub mod Outcome
mod Put
pub mod Lengths
mod Examples
