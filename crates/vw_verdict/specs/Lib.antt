pub mod Places
pub mod Verdicts
pub mod Ticks
pub mod search
