pub mod Lists
pub mod Numbers
pub mod Segments
pub mod Relocations
pub mod Rules
pub mod Words
pub mod Spelled
pub mod Stubs
