pub mod Below
pub mod Matching
pub mod Uniqueness
pub mod ReadLevels
pub mod Places
pub mod SpelledListed
pub mod Bytes
pub mod Lengths
