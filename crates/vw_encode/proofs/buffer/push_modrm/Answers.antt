use Rattle.std.proofs.Common.{[], ◌∷◌}
use Rattle.vw_rows.specs.Parts.{sib_bytes}
use Rattle.vw_encode.proofs.Buffers.{regroup}
use Rattle.vw_encode.proofs.buffer.push_modrm.Goals as goal

pub returns-in_ok-with_sib-in-Some : goal.returns-in_ok-with_sib-in-Some
returns-in_ok-with_sib-in-Some c = λ xs h.
    let m = c.in-Some.m in
    rw c.in-Some.is (regroup xs (m.byte ∷ []) (sib_bytes m.sib) m.disp.now c.push_all.result (c.push_all.ensures _ (c.in_ok-with_sib-in-Some.ensures _ (c.in_ok-with_byte-in-Some.ensures xs h))))
