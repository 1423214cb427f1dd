pub mod IndexLemmas
pub mod Counting
pub mod FirstCheckLemmas
pub mod OverColumns
