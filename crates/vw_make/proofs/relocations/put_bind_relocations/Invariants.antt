use Rattle.std.proofs.Common.{◌≡◌, ◌++◌, take}
use Rattle.std.specs.List.{flat_map}
use Rattle.vw_make.specs.Relocations.{bind_relocation}
use Rattle.vw_make.proofs.relocations.put_bind_relocations.Given as goal

abbrev pub invariant-loop-bind : goal.invariant-loop-bind
invariant-loop-bind l = l.out.items ≡ l.initial.out.items ++ flat_map (bind_relocation l.plan.layout) (take l.bind-index l.binds)
