pub mod Keys
pub mod Ties
pub mod Members
pub mod ScansSeen
