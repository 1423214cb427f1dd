pub mod Sources
pub mod Cut
pub mod Verdict
pub mod Seen
pub mod Laws
