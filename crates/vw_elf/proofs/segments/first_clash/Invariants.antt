use Rattle.std.proofs.Common.{◌≡◌, take, None}
use Rattle.std.specs.List.{find, list_any}
use Rattle.vw_bits.specs.Rules.{with_earlier}
use Rattle.vw_bits.specs.HeaderRules.{segments_clash}
use Rattle.vw_elf.proofs.segments.first_clash.Given as goal

abbrev pub invariant-loop-index : goal.invariant-loop-index
invariant-loop-index l = find (λ p. list_any (λ earlier. segments_clash earlier p.1) p.0) (with_earlier (take l.index l.segments)) ≡ None
