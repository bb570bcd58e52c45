use Rattle.std.proofs.Common.{refl}
use Rattle.vw_domain.proofs.registers.does_cell_land.Goals as goal

pub returns-then-is_same_simple : goal.returns-then-is_same_simple
returns-then-is_same_simple c = (λ _. (c.if-is_same_simple.ensures.among refl c.args.bounds.now, c.if-is_same_simple.ensures.below refl), λ _. refl)
