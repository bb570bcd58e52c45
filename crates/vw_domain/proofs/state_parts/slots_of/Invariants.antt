use Rattle.std.proofs.Common.{◌≡◌, take, map}
use Rattle.std.specs.List.{All}
use Rattle.vw_domain.specs.StateParts.{HasSize, entry_of}
use Rattle.vw_domain.proofs.state_parts.slots_of.Given as goal

abbrev pub invariant-loop-i : goal.invariant-loop-i
invariant-loop-i l = record {
  entries : map entry_of l.list ≡ take l.i l.slots;
  sizes : All HasSize l.list;
}
