use Rattle.std.proofs.Common.{arith, rules}
use Rattle.vw_values.proofs.PowerLemmas.{equal-beyond}
use Rattle.vw_values.proofs.refinement.equal.Goals as goal

pub returns-in-None : goal.returns-in-None
returns-in-None c = equal-beyond c.args.v c.args.width c.args.k c.args.bounds.now c.are_bounds.ensures c.in-W32.is (omega (arith, c.in-None.ensures, c.ranges.k.fits))

pub returns-in-Some : goal.returns-in-Some
returns-in-Some c = search rules
