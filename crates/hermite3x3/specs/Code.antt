pub mod StepsView
