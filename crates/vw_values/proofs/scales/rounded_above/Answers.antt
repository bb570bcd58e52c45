use Rattle.std.proofs.Common.{sym, arith}
use Rattle.vw_values.proofs.PowerLemmas.{rounded-none}
use Rattle.vw_values.proofs.scales.rounded_above.Goals as goal

pub returns-in-None : goal.returns-in-None
returns-in-None c = sym (rounded-none _ (omega (arith, c.in-None.ensures)))
