use Rattle.vw_machine.specs.Module.{declared_module}
use Rattle.vw_app.proofs.Answers.{told_checked}
use Rattle.vw_app.proofs.OneCheck.{checked_safe}
use Rattle.vw_app.proofs.laws.safe_reports_are_answered.Goals as goal

pub returns : goal.returns
returns c words told before after opened failed name report file bytes tables status text asks is_told also steady rules within printed safe reply =
    checked_safe (declared_module file) tables bytes c.texts_tell_tables.ensures within printed safe
    (told_checked words told before after opened failed name report file bytes status text asks is_told also steady rules reply)
