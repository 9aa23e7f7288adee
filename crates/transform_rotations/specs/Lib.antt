pub mod Transform
pub mod TransformRotations
pub mod ExactTransform
pub mod Code
