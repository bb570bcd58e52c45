use Rattle.std.proofs.Common.{◌≡◌, ◌==◌, take, false}
use Rattle.std.specs.List.{list_any}
use Rattle.vw_bits.proofs.strings.short_string.Given as goal

abbrev pub invariant-loop-index : goal.invariant-loop-index
invariant-loop-index l = list_any (λ b. b == 0) (take l.index l.rest) ≡ false
