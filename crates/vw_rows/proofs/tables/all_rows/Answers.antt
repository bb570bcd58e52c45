-- The table and the list of rows compute to the same.
use Rattle.std.proofs.Common.{refl}
use Rattle.vw_rows.specs.Rows.{rows}
use Rattle.vw_rows.proofs.tables.all_rows.Goals as goal

pub returns : goal.returns
unfolding rows
returns c = refl
