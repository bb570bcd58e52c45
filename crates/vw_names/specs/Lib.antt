pub mod Division
pub mod DivisionOrder
pub mod Spot
pub mod Groups
