use Rattle.std.proofs.Common.{◌≡◌, ◌-◌, ◌<◌, ◌^◌}
use Rattle.vw_report.specs.NumberItems.{read_hex}
use Rattle.vw_report.proofs.read_numbers.hex_on.Given as goal

abbrev pub invariant-loop-i : goal.invariant-loop-i
invariant-loop-i l = (read_hex (l.count - l.i) l.n l.rest ≡ read_hex l.count 0 l.bytes) × (l.n < 16 ^ l.i)
