use Rattle.std.proofs.Common.{◌≡◌, length}
use Rattle.vw_report.specs.NumberItems.{more_digits}
use Rattle.vw_report.proofs.read_numbers.digits_on.Given as goal

abbrev pub invariant-loop-rest : goal.invariant-loop-rest
invariant-loop-rest l = more_digits l.n l.rest ≡ more_digits l.first l.bytes

abbrev pub decreases-loop-rest : goal.decreases-loop-rest
decreases-loop-rest l = length l.rest
