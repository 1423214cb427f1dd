pub mod Dropping
pub mod Opening
pub mod Seen
pub mod Several
pub mod Told
