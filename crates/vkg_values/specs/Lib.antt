pub mod Known
pub mod Logic
pub mod Operators
pub mod Strings
