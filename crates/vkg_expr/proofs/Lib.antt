pub mod KindLists
pub mod ReadBack
pub mod Conjuncts
pub mod ValueFits
pub mod Weights
pub mod TypedParts
pub mod TermValues
