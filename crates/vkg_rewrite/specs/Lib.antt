pub mod Lines
pub mod Rewritten
