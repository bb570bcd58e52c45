pub mod Pieces
pub mod FieldLemmas
pub mod Places
pub mod Steps
pub mod Lengths
pub mod Sample
pub mod Guests
