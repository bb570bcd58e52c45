pub mod Lifted
pub mod Simulation
