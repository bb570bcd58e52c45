use Rattle.vw_rows.proofs.ReadLevels.{placed_found, placed_only}
use Rattle.vw_rows.proofs.lookup.row_numbered.Goals as goal

pub returns-clause-found : goal.returns-clause-found
returns-clause-found c = placed_found c.args.number c.row_placed.result c.row_placed.ensures

pub returns-clause-only : goal.returns-clause-only
returns-clause-only c = placed_only c.args.number c.row_placed.result c.row_placed.ensures
