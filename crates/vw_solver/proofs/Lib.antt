pub mod Landings
pub mod Search
pub mod Waiting
pub mod Seeds
pub mod PlaceLemmas
