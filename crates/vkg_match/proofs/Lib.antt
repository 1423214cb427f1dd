pub mod Forms
pub mod Values
pub mod Splits
pub mod Joined
pub mod Cuts
pub mod Holes
pub mod Exact
pub mod NeverIri
pub mod Fits
mod Rows
