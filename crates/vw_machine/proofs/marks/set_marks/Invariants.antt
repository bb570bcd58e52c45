use Rattle.std.proofs.Common.{◌≡◌, ℕ, ◌<◌, ◌≤◌}
use Rattle.std.specs.Prelude.{◌&&◌, ◌||◌, nat_le, nat_lt, IsSome}
use Rattle.std.specs.BTreeMap.{get}
use Rattle.std.specs.Ordering.{nat_cmp}
use Rattle.vw_machine.specs.Kept.{is_marked}
use Rattle.vw_machine.proofs.marks.set_marks.Given as goal

abbrev pub invariant-loop-q : goal.invariant-loop-q
invariant-loop-q l = record {
  set : (p : ℕ) → is_marked l.written p ≡ ((nat_le l.from p && nat_lt p l.q) || is_marked l.initial.written p);
  room : (p : ℕ) → l.from ≤ p → p < l.to → IsSome (get nat_cmp l.written p);
  empty : l.to < l.from → l.q ≡ l.from;
}
