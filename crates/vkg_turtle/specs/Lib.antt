pub mod Entries
pub mod Escapes
pub mod Words
pub mod SameTriple
pub mod Document
pub mod Fronts
pub mod Lexical
pub mod Reading
