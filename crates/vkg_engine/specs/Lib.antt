pub mod Counts
pub mod Sides
pub mod Taken
pub mod Weights
