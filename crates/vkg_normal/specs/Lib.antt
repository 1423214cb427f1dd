pub mod NormalForm
pub mod Laws
pub mod Resting
