use Rattle.std.proofs.Common.{ℕ, ◌<◌}
use Rattle.vw_domain.specs.Registers.{register_below, register_at}
use Rattle.vw_domain.proofs.registers.is_row_below.Given as goal

abbrev pub invariant-loop-i : goal.invariant-loop-i
invariant-loop-i l = (r : ℕ) → r < l.i → register_below (register_at l.low r) (register_at l.high r)
