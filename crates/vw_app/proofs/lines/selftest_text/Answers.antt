use Rattle.vw_app.specs.Lines.{selftest_line}
use Rattle.vw_app.proofs.Pieces.{pieces6}
use Rattle.vw_app.proofs.lines.selftest_text.Goals as goal

pub returns : goal.returns
unfolding selftest_line
returns c =
    rw c.new-text.ensures at (pieces6 c.new-text.result c.push.new.self c.dec.new.self c.push-2.new.self c.dec-2.new.self c.push-3.new.self c.push-4.new.self _ _ _ _ _ _
    c.in_ok-push.ensures.ok c.in_ok-dec.ensures.ok c.in_ok-push-2.ensures.ok c.in_ok-dec-2.ensures.ok c.in_ok-push-3.ensures.ok c.in_ok-push-4.ensures.ok)
