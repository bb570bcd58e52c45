use Rattle.std.proofs.Common.{◌≡◌, ◌-◌, length}
use Rattle.vw_report.specs.Items.{read_many, with_first}
use Rattle.vw_report.specs.Grammar.{equals, place}
use Rattle.vw_report.proofs.ItemLoops.{with_front}
use Rattle.vw_report.proofs.read_fields.further_at.Given as goal

abbrev pub invariant-loop-i : goal.invariant-loop-i
invariant-loop-i l = with_front l.items (read_many (length l.bytes - l.i) equals place l.rest) ≡ with_first l.fn.first (read_many (length l.bytes) equals place l.bytes)
