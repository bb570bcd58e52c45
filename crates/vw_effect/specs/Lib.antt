pub mod Meaning
pub mod Comparisons
