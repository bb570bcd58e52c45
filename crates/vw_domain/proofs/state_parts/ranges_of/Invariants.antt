use Rattle.std.proofs.Common.{◌≡◌, ◌≤◌, length, take}
use Rattle.vw_domain.proofs.state_parts.ranges_of.Given as goal

abbrev pub invariant-loop-i : goal.invariant-loop-i
invariant-loop-i l = record {
  within : l.i ≤ length l.written;
  ranges : l.ranges ≡ take l.i l.written;
}
