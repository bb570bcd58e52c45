pub mod Pieces
pub mod ReadLoop
pub mod Files
