use Rattle.vw_machine.specs.Module.{declared_module}
use Rattle.vw_app.proofs.OneCheck.{checked_once}
use Rattle.vw_app.proofs.laws.one_check.Goals as goal

pub returns : goal.returns
returns c file report status other text other_text rules one two =
    checked_once (declared_module file) (λ j k f g. c.functions_ascend.ensures.ascend file j k f g rules) c.texts_tell_tables.ensures report one two
