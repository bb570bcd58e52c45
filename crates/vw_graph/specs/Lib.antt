pub mod Rounds
pub mod search
