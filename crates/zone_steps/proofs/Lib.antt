pub mod CallSteps
pub mod ListedClasses
pub mod ListedGrid
