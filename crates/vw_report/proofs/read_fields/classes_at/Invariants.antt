use Rattle.std.proofs.Common.{◌≡◌, ◌-◌, ◌∷◌, [], length}
use Rattle.vw_report.specs.Items.{read_many}
use Rattle.vw_report.specs.Grammar.{class}
use Rattle.vw_report.proofs.ItemLoops.{with_front}
use Rattle.vw_report.proofs.read_fields.classes_at.Given as goal

abbrev pub invariant-loop-i : goal.invariant-loop-i
invariant-loop-i l = with_front l.items (read_many (length l.bytes - l.i) (32 ∷ 101 ∷ []) class l.rest) ≡ read_many (length l.bytes) (32 ∷ 101 ∷ []) class l.bytes
