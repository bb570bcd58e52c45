use Rattle.std.proofs.Common.{take}
use Rattle.vw_image.specs.Index.{IsIndex}
use Rattle.vw_image.proofs.index.by_place.Given as goal

abbrev pub invariant-loop-relocation : goal.invariant-loop-relocation
invariant-loop-relocation l = IsIndex l.index (take l.relocation-index l.relocations)
