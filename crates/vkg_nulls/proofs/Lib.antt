pub mod Lists
pub mod InCondition
