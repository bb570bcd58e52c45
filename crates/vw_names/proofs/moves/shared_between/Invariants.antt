use Rattle.vw_names.proofs.BetweenLemmas.{NoneBetween}
use Rattle.vw_names.proofs.moves.shared_between.Given as goal

abbrev pub invariant-loop-entry : goal.invariant-loop-entry
invariant-loop-entry l = NoneBetween l.entries l.low l.high l.entry-index
