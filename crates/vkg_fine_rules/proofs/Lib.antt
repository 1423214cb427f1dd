pub mod Narrow
pub mod Fits
pub mod FineRows
pub mod FittingRules
