use Rattle.std.proofs.Common.{◌-◌, length}
use Rattle.vw_outside.proofs.ReadLoop.{ReadSoFar}
use Rattle.vw_outside.proofs.reading.read_opened.Given as goal

abbrev pub invariant-loop-bytes : goal.invariant-loop-bytes
invariant-loop-bytes g l =
    ReadSoFar g.F.Shelf.told g.F.Shelf.left g.F.Shelf.given g.F.Shelf.opened g.F.Shelf.failed g.F.Shelf.faults l.fn.shelf l.shelf l.bytes.items l.limit

abbrev pub decreases-loop-bytes : goal.decreases-loop-bytes
decreases-loop-bytes g l = l.limit - length l.bytes.items
