use Rattle.std.proofs.Common.{take}
use Rattle.vw_domain.specs.StateParts.{ArePlacesOf}
use Rattle.vw_domain.proofs.state_parts.places_of.Given as goal

abbrev pub invariant-loop-name : goal.invariant-loop-name
invariant-loop-name l = ArePlacesOf (take l.name-index l.names) l.places
