pub mod Answered
pub mod Offers
pub mod Permuted
pub mod RowLists
pub mod Typed
