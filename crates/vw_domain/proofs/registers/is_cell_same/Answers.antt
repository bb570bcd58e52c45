use Rattle.std.proofs.Common.{refl}
use Rattle.vw_domain.proofs.registers.is_cell_same.Goals as goal

pub returns-then-is_same_simple : goal.returns-then-is_same_simple
returns-then-is_same_simple c = (
  λ _. (c.if-is_same_simple.ensures.same refl, c.if-is_same_simple.ensures.among refl c.args.bounds.now),
  λ _. refl,
)
