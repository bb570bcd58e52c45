use Rattle.std.proofs.Common.{◌≡◌, drop}
use Rattle.vw_report.specs.Items.{after}
use Rattle.vw_report.proofs.read_numbers.behind.Given as goal

abbrev pub invariant-loop-c : goal.invariant-loop-c
invariant-loop-c l = after (drop l.c-index l.literal) l.rest ≡ after l.literal l.bytes
