use Rattle.std.proofs.Common.{◌+◌, ◌-◌, ◌≤◌, length, drop}
use Rattle.vw_locals.proofs.MeetLemmas.{Meeting}
use Rattle.vw_locals.proofs.meet.meet.Given as goal

abbrev pub invariant-loop-i : goal.invariant-loop-i
invariant-loop-i l = record {
  within_left : l.i ≤ length l.left;
  within_right : l.j ≤ length l.right;
  meeting : Meeting l.left l.right (drop l.i l.left) (drop l.j l.right) l.common.items;
}

abbrev pub decreases-loop-i : goal.decreases-loop-i
decreases-loop-i l = (length l.left - l.i) + (length l.right - l.j)
