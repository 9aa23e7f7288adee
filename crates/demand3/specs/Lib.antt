pub mod FinishedList
pub mod WholeSums
