pub mod TableKinds
pub mod Quads
pub mod LeastFault
pub mod Company
pub mod Writable
