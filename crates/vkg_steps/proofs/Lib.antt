pub mod MemberLemmas
pub mod OutcomeLemmas
pub mod PlaceLemmas
pub mod SpineLemmas
