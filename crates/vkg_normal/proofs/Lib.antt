pub mod Normal
pub mod OneEnd
pub mod Flags
pub mod AtRest
