use Rattle.std.proofs.Common.{sym, arith}
use Rattle.vw_values.proofs.Search.{none-above}
use Rattle.vw_state.proofs.operand.bound_above.Goals as goal

pub returns-in-None : goal.returns-in-None
returns-in-None c = sym (none-above _ c.args.bounds.now c.are_bounds.ensures (omega (arith, c.in-None.ensures)))
