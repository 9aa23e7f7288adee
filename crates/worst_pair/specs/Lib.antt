pub mod Worst
pub mod WorstPair
