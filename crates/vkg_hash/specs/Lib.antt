pub mod Groups
pub mod Hashing
