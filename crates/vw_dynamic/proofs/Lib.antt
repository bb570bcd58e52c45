pub mod OverlapLemmas
pub mod BoundLemmas
pub mod ImportLemmas
