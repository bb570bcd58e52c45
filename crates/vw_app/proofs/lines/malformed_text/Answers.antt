use Rattle.vw_app.specs.Lines.{malformed_line}
use Rattle.vw_app.proofs.Pieces.{pieces5}
use Rattle.vw_app.proofs.lines.malformed_text.Goals as goal

pub returns : goal.returns
unfolding malformed_line
returns c =
    rw c.new-text.ensures at (pieces5 c.new-text.result c.push.new.self c.dec.new.self c.push-2.new.self c.dec-2.new.self c.push-3.new.self _ _ _ _ _
    c.in_ok-push.ensures.ok c.in_ok-dec.ensures.ok c.in_ok-push-2.ensures.ok c.in_ok-dec-2.ensures.ok c.in_ok-push-3.ensures.ok)
