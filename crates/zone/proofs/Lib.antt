pub mod Outcomes
pub mod ChainWhole
pub mod ChainFinished
pub mod ChainNumbers
pub mod NeverOther
