pub mod Numbers
pub mod OperandRuns
pub mod MoveRuns
pub mod ArithmeticRuns
pub mod XmmRuns
pub mod Simulates
pub mod Form
