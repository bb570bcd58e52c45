-- How the solver goes from its first table to the least one, and how it keeps its table: definitions that its code and proofs
-- cite, and that no reader of its contracts has to believe.
pub mod Landing
pub mod Visited
pub mod Tables
pub mod Places
