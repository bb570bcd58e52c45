use Rattle.std.proofs.Common.{◌≡◌, ℕ, ◌-◌, ◌%◌, ◌<◌, ◌≤◌, slice_index}
use Rattle.std.specs.Prelude.{◌&&◌, nat_le, nat_lt, false}
use Rattle.std.specs.BTreeMap.{get}
use Rattle.std.specs.Ordering.{nat_cmp}
use Rattle.vw_machine.specs.Kept.{byte_in}
use Rattle.vw_machine.proofs.memory.put_below.Given as goal

abbrev pub invariant-loop-q : goal.invariant-loop-q
invariant-loop-q l = record {
  put : (p : ℕ) → l.from ≤ p → p < l.q → byte_in l.bytes p ≡ slice_index l.below (l.top - 1 - p) % 256;
  others : (p : ℕ) → (nat_le l.from p && nat_lt p l.q) ≡ false → get nat_cmp l.bytes p ≡ get nat_cmp l.initial.bytes p;
  empty : l.to < l.from → l.q ≡ l.from;
}
