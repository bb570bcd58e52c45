use Rattle.vw_app.proofs.Sample.{calling_meets}
use Rattle.vw_app.proofs.tests.whole.calling_parts.Goals as goal

pub returns : goal.returns
returns c =
    rw (c.in_ok-functions.ensures, c.in_ok-imports.ensures, c.in_ok-tables.ensures, c.in_ok-content.ensures, c.in_ok-binds.ensures, c.in_ok-text_of.ensures, c.in_ok-pair_of.ensures) calling_meets
