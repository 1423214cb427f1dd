pub mod Conjuncts
pub mod InCondition
pub mod Lists
mod Rows
