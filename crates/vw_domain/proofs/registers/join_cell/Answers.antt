use Rattle.std.proofs.Common.{refl}
use Rattle.vw_domain.proofs.RegisterJoins.{stays_same}
use Rattle.vw_domain.proofs.registers.join_cell.Goals as goal

pub returns-then-is_same-clause-joins : goal.returns-then-is_same-clause-joins
returns-then-is_same-clause-joins c = stays_same c.args.bounds.now c.args.cell.now c.args.other.now c.requires.cell (c.if-is_same.ensures.0 refl)
