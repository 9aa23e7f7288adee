pub mod Lattice
pub mod Search
pub mod SearchView
