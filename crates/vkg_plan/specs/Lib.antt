pub mod Plan
pub mod Seen
pub mod Kinds
pub mod GivenKinds
pub mod Rows
pub mod Laws
