pub mod Faults
pub mod Entries
pub mod Directory
pub mod Relas
pub mod Names
pub mod Targets
pub mod Dynamic
