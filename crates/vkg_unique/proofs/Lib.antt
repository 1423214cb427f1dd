pub mod Earlier
pub mod OneColumn
pub mod Pairs
pub mod Scans
