mod Examples
pub mod FirstFault
pub mod GatheredLemmas
pub mod IndexLemmas
pub mod InOrder
pub mod Least
pub mod LeastFault
pub mod MappingLemmas
pub mod RuleCount
pub mod Parts
pub mod PassedLemmas
pub mod Within
