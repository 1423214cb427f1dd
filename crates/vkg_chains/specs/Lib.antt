pub mod Fix
pub mod Chains
pub mod FixLaw
pub mod Ends
