-- How a verdict is found, function by function: definitions that the code and the proofs of this crate cite, and that no
-- reader of `judge` has to believe.
pub mod Findings
