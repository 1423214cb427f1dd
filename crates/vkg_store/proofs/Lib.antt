pub mod FormLemmas
pub mod HeldLemmas
pub mod RowLemmas
pub mod StoredLemmas
pub mod TextLemmas
