pub mod FieldLemmas
pub mod Tables
pub mod ListLemmas
pub mod RuleLemmas
pub mod FaultLemmas
pub mod BoundLemmas
