use Rattle.std.proofs.Common.{◌≡◌, ℕ, ◌<◌, ◌≤◌}
use Rattle.std.specs.Prelude.{IsSome}
use Rattle.std.specs.BTreeMap.{get}
use Rattle.std.specs.Ordering.{nat_cmp}
use Rattle.vw_machine.specs.Kept.{is_marked}
use Rattle.vw_machine.proofs.marks.make_room.Given as goal

abbrev pub invariant-loop-at : goal.invariant-loop-at
invariant-loop-at l = record {
  same : (q : ℕ) → is_marked l.written q ≡ is_marked l.initial.written q;
  room : (q : ℕ) → l.from ≤ q → q < l.at-counter → IsSome (get nat_cmp l.written q);
}
