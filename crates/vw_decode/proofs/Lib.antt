pub mod Binds
pub mod RowFacts
pub mod Heads
pub mod Tails
pub mod Whole
