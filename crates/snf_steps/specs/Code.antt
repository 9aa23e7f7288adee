pub mod ColumnsView
pub mod Settled
pub mod SmallWalk
pub mod StagesView
