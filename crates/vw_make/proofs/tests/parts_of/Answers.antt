use Rattle.vw_make.proofs.Sample.{sample_meets}
use Rattle.vw_make.proofs.tests.parts_of.Goals as goal

pub returns : goal.returns
returns c =
    rw (c.in_ok-functions_of.ensures, c.in_ok-imports_of.ensures, c.in_ok-tables_of.ensures, c.from_vec.ensures, c.in_ok-from_slice.ensures.items, c.from_vec-2.ensures, c.in_ok-vec.ensures.items) sample_meets
