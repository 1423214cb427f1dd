pub mod TruthValues
pub mod Forms
