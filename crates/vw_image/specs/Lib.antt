pub mod Image
pub mod Bounds
pub mod Index
pub mod Words
pub mod Stubs
pub mod Laws
