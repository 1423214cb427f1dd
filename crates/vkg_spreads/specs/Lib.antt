pub mod Additive
pub mod Counted
pub mod DistributeUnion
pub mod DistributeUnionLaw
pub mod Members
pub mod Nodes
