pub mod AntiNothing
pub mod AntiNothingLaw
pub mod AntiRight
pub mod AntiRightLaw
