pub mod Asks
pub mod Chains
pub mod Reading
pub mod Wide
