use Rattle.vw_encode.proofs.Buffers.{grown, no_room}
use Rattle.vw_encode.proofs.buffer.push_all.Goals as goal

pub returns-in_err-all : goal.returns-in_err-all
returns-in_err-all c = λ xs h.
    rw c.from_residual.ensures (no_room c.args.bytes.now xs c.loop-byte.byte-index c.loop-byte-test.true (c.in_err-all.ensures _ (c.loop-byte.invariant xs h)))

pub loop-byte-preserved : goal.loop-byte-preserved
loop-byte-preserved c = λ xs h.
    grown c.args.bytes.now xs c.loop-byte.byte-index c.in_ok-all.all c.loop-byte-test.true (c.in_ok-all.ensures _ (c.loop-byte.invariant xs h))
