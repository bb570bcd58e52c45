pub mod Lines
pub mod Listing
pub mod Judged
pub mod Selftest
pub mod Check
pub mod Answer
