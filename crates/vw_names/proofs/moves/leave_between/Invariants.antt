use Rattle.std.proofs.Common.{vec_len}
use Rattle.vw_names.proofs.BetweenLemmas.{Leaving}
use Rattle.vw_names.proofs.moves.leave_between.Given as goal

abbrev pub invariant-loop-place : goal.invariant-loop-place
invariant-loop-place l = Leaving l.low l.high l.initial.entries.items l.entries.items

abbrev pub decreases-loop-place : goal.decreases-loop-place
decreases-loop-place l = vec_len l.entries
