pub mod Company
pub mod Count
