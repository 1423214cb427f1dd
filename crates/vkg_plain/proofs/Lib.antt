pub mod Asked
pub mod Chains
pub mod EscapeLemmas
pub mod Maps
pub mod QuadLemmas
pub mod SeenForms
pub mod TermLemmas
pub mod Written
