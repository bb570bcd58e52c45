-- The lists and the rows compute to the same.
use Rattle.std.proofs.Common.{refl}
use Rattle.vw_rows.specs.Rows.{rows}
use Rattle.vw_encode.specs.search.Kinds.{rows_of_kind, are_numbers, kinds_agree}
use Rattle.vw_encode.proofs.kinds.kinds.Goals as goal

pub returns : goal.returns
unfolding rows rows_of_kind are_numbers kinds_agree
returns c = refl
