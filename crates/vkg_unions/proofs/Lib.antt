pub mod Keys
pub mod Repeats
pub mod SamePairs
pub mod Told
