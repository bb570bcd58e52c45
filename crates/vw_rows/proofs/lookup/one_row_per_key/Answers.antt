use Rattle.vw_rows.proofs.lookup.one_row_per_key.Goals as goal
use Rattle.vw_rows.proofs.Uniqueness.{one_row}

pub returns : goal.returns
returns c = one_row
