pub mod DirectGraph
pub mod DirectMapping
pub mod Laws
pub mod Within
