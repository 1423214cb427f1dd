pub mod Tables
pub mod Whole
pub mod Joined
pub mod Nodes
pub mod Cells
pub mod AllMade
pub mod Law
pub mod Moments
pub mod RuleCount
mod Examples
pub mod Within
pub mod Writable
