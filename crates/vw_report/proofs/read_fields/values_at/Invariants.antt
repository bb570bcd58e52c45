use Rattle.std.proofs.Common.{map, ◌≡◌, length, drop, take}
use Rattle.vw_report.specs.StateText.{register_mark, registers}
use Rattle.vw_report.specs.Items.{read_fields}
use Rattle.vw_report.specs.Grammar.{or_any, shown_value}
use Rattle.vw_report.proofs.ItemLoops.{with_front}
use Rattle.vw_report.proofs.FieldLoops.{seen_fields}
use Rattle.vw_report.proofs.read_fields.values_at.Given as goal

abbrev pub invariant-loop-r : goal.invariant-loop-r
invariant-loop-r l = (with_front (take l.r l.items) (seen_fields or_any (read_fields (drop l.r (map (register_mark 118) registers)) shown_value l.rest)) ≡ seen_fields or_any (read_fields (map (register_mark 118) registers) shown_value l.bytes)) × (length l.items ≡ 16)
