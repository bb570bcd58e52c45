use Rattle.vw_app.specs.Lines.{bad_report_line}
use Rattle.vw_app.proofs.lines.bad_report_text.Goals as goal

pub returns : goal.returns
unfolding bad_report_line
returns c = c.count_text.ensures
