use Rattle.std.proofs.Common.{take}
use Rattle.vw_locals.specs.Ranges.{IsRanges}
use Rattle.vw_domain.proofs.PartChecks.{AreSame}
use Rattle.vw_domain.proofs.state_of.written_of.Given as goal

abbrev pub invariant-loop-range : goal.invariant-loop-range
invariant-loop-range l = record {
  ranges : IsRanges l.written;
  same : AreSame l.written (take l.range-index l.ranges);
}
