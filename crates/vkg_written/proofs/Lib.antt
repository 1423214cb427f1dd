pub mod Templates
pub mod TermMaps
pub mod TriplesMaps
pub mod Objects
pub mod Tokens
pub mod Texts
pub mod Written
