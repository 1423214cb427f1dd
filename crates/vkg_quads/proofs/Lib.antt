pub mod Targets
pub mod DumpLaws
pub mod Partners
pub mod Pieces
mod Examples
