pub mod Numbered
pub mod Table
pub mod Marks
