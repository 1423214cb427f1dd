pub mod ByValue
pub mod Dates
pub mod DdlTokens
mod Examples
pub mod Fractions
pub mod Moments
pub mod Octets
pub mod Orders
pub mod RemoveDots
pub mod Times
