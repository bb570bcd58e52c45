use Rattle.std.proofs.Common.{drop}
use Rattle.std.specs.Prelude.{pos, ◌<ℤ◌}
use Rattle.vw_domain.proofs.PartChecks.{RangesAbove, before_frame}
use Rattle.vw_domain.proofs.part_checks.are_ranges.Given as goal

abbrev pub invariant-loop-range : goal.invariant-loop-range
invariant-loop-range l = record {
  low : l.end <ℤ pos 0;
  to : RangesAbove l.end (drop l.range-index l.ranges) → RangesAbove before_frame l.ranges;
  from : RangesAbove before_frame l.ranges → RangesAbove l.end (drop l.range-index l.ranges);
}
