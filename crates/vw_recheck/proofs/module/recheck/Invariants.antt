use Rattle.std.proofs.Common.{length, ◌-◌}
use Rattle.vw_recheck.proofs.Tables.{MatchedTo}
use Rattle.vw_recheck.proofs.module.recheck.Given as goal

abbrev pub invariant-loop-number : goal.invariant-loop-number
invariant-loop-number l = MatchedTo l.loaded l.tables.functions l.number

abbrev pub decreases-loop-number : goal.decreases-loop-number
decreases-loop-number l = length l.functions - l.number
