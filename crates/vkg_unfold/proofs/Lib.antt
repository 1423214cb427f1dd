pub mod Chains
pub mod Joins
pub mod Stands
pub mod Steps
