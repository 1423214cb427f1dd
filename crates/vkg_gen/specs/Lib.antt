pub mod Report
pub mod Readable
