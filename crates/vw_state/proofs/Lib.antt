mod Begins
mod Spellings
mod Sizes
mod Flows
mod Alike
pub mod RoundLists
pub mod RoundChecks
mod RoundEdges
mod RoundLemmas
pub mod Sites
mod EdgeStates
mod TableTargets
mod NearBounds
mod BoundLists
mod SiteRanges
pub mod Displacements
mod Counts
mod EdgeRises
mod FormGains
mod EdgeGrows
mod Written
mod Outcomes
mod Contents
mod Loaded
mod CodeBytes
mod CountingRows
