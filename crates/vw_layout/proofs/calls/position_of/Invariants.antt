use Rattle.std.proofs.Common.{ℕ, ◌<◌, ◌≤◌, ◌-◌, length, get_or}
use Rattle.vw_layout.specs.declared.functions.Function.{Function}
use Rattle.vw_layout.proofs.calls.position_of.Given as goal

abbrev pub invariant-loop-low : goal.invariant-loop-low
invariant-loop-low l = record {
  ends : l.high ≤ length l.functions;
  below : (k : ℕ) (d : Function) → k < l.low → (get_or l.functions k d).entry < l.address;
  above : (k : ℕ) (d : Function) → l.high ≤ k → k < length l.functions → l.address < (get_or l.functions k d).entry;
}

abbrev pub decreases-loop-low : goal.decreases-loop-low
decreases-loop-low l = l.high - l.low
