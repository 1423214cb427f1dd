pub mod CountArms
pub mod NodeArms
pub mod NodeFacts
pub mod PushLemmas
pub mod RunLaws
pub mod SideLemmas
pub mod TableKinds
pub mod UnionLemmas
