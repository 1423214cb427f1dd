pub mod FirstJoin
pub mod Widths
