pub mod StepBounds
