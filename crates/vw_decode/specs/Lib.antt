pub mod Lexing
pub mod Views
