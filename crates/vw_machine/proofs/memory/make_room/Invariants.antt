use Rattle.std.proofs.Common.{◌≡◌, ℕ, ◌<◌, ◌≤◌}
use Rattle.std.specs.Prelude.{IsSome}
use Rattle.std.specs.BTreeMap.{get}
use Rattle.std.specs.Ordering.{nat_cmp}
use Rattle.vw_machine.specs.Kept.{byte_in}
use Rattle.vw_machine.proofs.memory.make_room.Given as goal

abbrev pub invariant-loop-at : goal.invariant-loop-at
invariant-loop-at l = record {
  same : (q : ℕ) → byte_in l.bytes q ≡ byte_in l.initial.bytes q;
  room : (q : ℕ) → l.from ≤ q → q < l.at-counter → IsSome (get nat_cmp l.bytes q);
}
