pub mod FirstProject
pub mod OwnColumns
pub mod Counting
pub mod LiftParts
pub mod FirstBelow
