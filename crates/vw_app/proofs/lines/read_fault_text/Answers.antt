use Rattle.vw_app.specs.Lines.{read_fault_line}
use Rattle.vw_app.proofs.lines.read_fault_text.Goals as goal

pub returns : goal.returns
unfolding read_fault_line
returns c = rw c.new-text.ensures at c.in_ok-push.ensures.ok
