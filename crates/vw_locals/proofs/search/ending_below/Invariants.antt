use Rattle.std.proofs.Common.{◌-◌, ◌≤◌, ◌<ℤ◌, ◌≤ℤ◌, length}
use Rattle.std.specs.List.{AllWithin}
use Rattle.vw_locals.proofs.search.ending_below.Given as goal

abbrev pub invariant-loop-low : goal.invariant-loop-low
invariant-loop-low l = record {
  ordered : l.low ≤ l.high;
  within : l.high ≤ length l.ranges;
  below : AllWithin (λ range. range.1 <ℤ l.x) l.ranges 0 l.low;
  above : AllWithin (λ range. l.x ≤ℤ range.1) l.ranges l.high (length l.ranges);
}

abbrev pub decreases-loop-low : goal.decreases-loop-low
decreases-loop-low l = l.high - l.low
