pub mod ByValue
pub mod DdlTokens
pub mod RemoveDots
