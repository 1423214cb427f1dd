pub mod AlgebraColumns
pub mod Data
mod Examples
pub mod PlanColumns
pub mod TermKinds
