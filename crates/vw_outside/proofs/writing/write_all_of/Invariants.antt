use Rattle.std.proofs.Common.{length, ◌-◌}
use Rattle.vw_outside.proofs.Pieces.{WrittenSoFar}
use Rattle.vw_outside.proofs.writing.write_all_of.Given as goal

abbrev pub invariant-loop-done : goal.invariant-loop-done
invariant-loop-done g l =
    let written = g.K.Sink.written in
    let faults = g.K.Sink.faults in
    WrittenSoFar (written l.fn.sink) (written l.sink) (faults l.fn.sink) (faults l.sink) l.piece l.done

abbrev pub decreases-loop-done : goal.decreases-loop-done
decreases-loop-done g l = length l.piece - l.done
