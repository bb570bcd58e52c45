pub mod Functions
pub mod Accesses
pub mod Checks
pub mod Safe
pub mod Modules
pub mod Harmless
