use Rattle.std.proofs.Common.{take}
use Rattle.vw_image.specs.Index.{IsIndex, bound_ones}
use Rattle.vw_image.proofs.index.bound_by_place.Given as goal

abbrev pub invariant-loop-relocation : goal.invariant-loop-relocation
invariant-loop-relocation l = IsIndex l.index (bound_ones (take l.relocation-index l.relocations))
