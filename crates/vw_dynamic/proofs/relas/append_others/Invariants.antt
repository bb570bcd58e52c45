use Rattle.std.proofs.Common.{◌≡◌, ◌++◌, ◌==◌, not, map}
use Rattle.std.specs.List.{filter, list_any}
use Rattle.vw_bits.specs.Headers.{table}
use Rattle.vw_dynamic.specs.Relas.{rela_at}
use Rattle.vw_dynamic.proofs.relas.append_others.Given as goal

abbrev pub invariant-loop-index : goal.invariant-loop-index
invariant-loop-index l = l.relas.items ≡ l.initial.relas.items ++ map (rela_at l.bytes) (filter (λ at. not (list_any (λ other. other == at) (table l.first.offset 24 l.first.count))) (table l.second.offset 24 l.index))
