pub mod CellLemmas
pub mod KindLists
pub mod Pairs
pub mod RowsFit
pub mod GivenKinds
pub mod SeenParts
