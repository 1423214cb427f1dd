pub mod RowTerms
pub mod RowRules
pub mod RowDataset
pub mod Laws
