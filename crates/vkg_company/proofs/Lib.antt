pub mod Numbers
pub mod Meets
pub mod Derivation
pub mod SchemaTexts
pub mod OwnText
pub mod Counts
