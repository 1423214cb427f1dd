pub mod Terms
pub mod DataFaults
pub mod LeastFault
pub mod QuadRules
pub mod Dataset
pub mod Within
pub mod Writable
