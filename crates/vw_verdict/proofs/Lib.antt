mod NoPlace
pub mod Points
mod Modules
mod Steps
mod Functions
