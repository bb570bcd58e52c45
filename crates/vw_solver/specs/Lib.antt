pub mod Solution
pub mod Rising
pub mod Chains
pub mod Standing
pub mod Seed
pub mod search
