pub mod OnColumns
pub mod PutIn
pub mod MovedColumns
pub mod Conjuncts
pub mod Lists
pub mod SeenExprs
