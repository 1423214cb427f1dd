pub mod AntiText
pub mod Cutting
pub mod Heads
pub mod LeftText
pub mod Plans
pub mod Sound
pub mod Orders
