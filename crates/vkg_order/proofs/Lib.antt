mod Examples
pub mod Numbers
pub mod Ordered
pub mod Cut
pub mod Totals
pub mod Standing
pub mod Steps
pub mod Settled
pub mod Texts
pub mod Moments
pub mod Entering
pub mod Sliced
pub mod Ranks
pub mod ByOperator
