use Rattle.std.proofs.Common.{◌≡◌, ◌++◌}
use Rattle.vw_make.specs.Bytes.{counted}
use Rattle.vw_make.specs.Relocations.{slot_relocation}
use Rattle.vw_make.proofs.relocations.put_slot_relocations.Given as goal

abbrev pub invariant-loop-number : goal.invariant-loop-number
invariant-loop-number l = l.out.items ≡ l.initial.out.items ++ counted (slot_relocation l.plan.layout) l.number
