pub mod QueryTexts
pub mod ThreeQueries
pub mod Mapping
pub mod One
pub mod Reported
