use Rattle.vw_app.proofs.Sample.{sample_meets}
use Rattle.vw_app.proofs.tests.whole.parts_of.Goals as goal

pub returns : goal.returns
returns c =
    rw (c.in_ok-functions.ensures, c.in_ok-imports.ensures, c.in_ok-tables.ensures, c.in_ok-content.ensures, c.in_ok-binds.ensures, c.in_ok-text_of.ensures, c.in_ok-text_of-2.ensures) sample_meets
