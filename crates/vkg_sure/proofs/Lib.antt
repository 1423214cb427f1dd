pub mod Comparisons
pub mod Found
pub mod InCondition
pub mod Lists
pub mod Marks
pub mod Nodes
pub mod Places
