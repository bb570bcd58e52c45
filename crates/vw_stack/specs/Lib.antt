pub mod Stack
pub mod StackOrder
