pub mod Narrow
pub mod Numbers
pub mod Parts
pub mod Widths
