pub mod Environment
pub mod Does
pub mod Lifted
pub mod Accesses
pub mod Laws
