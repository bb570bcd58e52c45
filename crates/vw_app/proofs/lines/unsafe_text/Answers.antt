use Rattle.vw_app.specs.Lines.{unsafe_line}
use Rattle.vw_app.proofs.Pieces.{pieces7}
use Rattle.vw_app.proofs.lines.unsafe_text.Goals as goal

pub returns : goal.returns
unfolding unsafe_line
returns c =
    rw c.new-text.ensures at (pieces7 c.new-text.result c.push.new.self c.push_name.new.text c.push-2.new.self c.hex.new.self c.push-3.new.self c.push_check.new.text c.push-4.new.self _ _ _ _ _ _ _
    c.in_ok-push.ensures.ok c.in_ok-push_name.ensures c.in_ok-push-2.ensures.ok c.in_ok-hex.ensures.ok c.in_ok-push-3.ensures.ok c.in_ok-push_check.ensures c.in_ok-push-4.ensures.ok)
