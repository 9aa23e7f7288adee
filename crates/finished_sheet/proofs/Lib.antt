pub mod FinishedSheet
