pub mod Lookups
pub mod Refines
pub mod Firsts
pub mod MoveLemmas
pub mod NameLemmas
pub mod BetweenLemmas
pub mod GroupLemmas
