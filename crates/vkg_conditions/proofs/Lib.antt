pub mod ListLemmas
pub mod Found
pub mod PlaceLemmas
pub mod Tried
pub mod Told
pub mod InCondition
