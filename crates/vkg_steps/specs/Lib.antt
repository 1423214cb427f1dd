pub mod Behind
pub mod Outcomes
pub mod Rests
pub mod Spine
pub mod Sides
