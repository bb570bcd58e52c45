use Rattle.std.proofs.Common.{◌≡◌, map}
use Rattle.std.specs.List.{range_with_len}
use Rattle.vw_make.specs.Generator.{drawn, guest_of}
use Rattle.vw_make.proofs.generator.functions_from.Given as goal

abbrev pub invariant-loop-index : goal.invariant-loop-index
invariant-loop-index l = record { x : l.x ≡ drawn l.number l.index; list : l.list ≡ map (guest_of l.number) (range_with_len 0 l.index) }
