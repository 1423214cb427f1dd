pub mod Values
pub mod Marks
pub mod Lent
pub mod Entries
pub mod Listed
pub mod Kept
pub mod Ranked
