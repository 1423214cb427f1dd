pub mod Conditions
pub mod FineRows
pub mod FittingRules
pub mod StandsFor
pub mod Unfolded
