pub mod InMemory
pub mod Outside
pub mod Status
pub mod Written
pub mod formers
