pub mod Checks
pub mod Vocabulary
pub mod Graph
pub mod Index
pub mod Columns
pub mod Languages
pub mod TermMaps
pub mod FirstCheck
