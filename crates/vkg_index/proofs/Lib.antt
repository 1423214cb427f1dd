pub mod Forms
pub mod Groups
pub mod OneKey
pub mod OneMore
