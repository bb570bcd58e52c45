-- How the rounds are found, and what is at hand for it: definitions that the code and the proofs of this crate cite, and
-- that no reader of `rounds` has to believe.
pub mod Solved
pub mod Graphs
pub mod Jumps
pub mod Walks
pub mod Course
