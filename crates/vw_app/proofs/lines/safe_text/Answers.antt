use Rattle.vw_app.specs.Lines.{safe_line}
use Rattle.vw_app.proofs.lines.safe_text.Goals as goal

pub returns : goal.returns
unfolding safe_line
returns c = c.count_text.ensures
