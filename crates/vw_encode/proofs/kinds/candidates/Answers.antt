use Rattle.std.proofs.Common.{length, arith, ◌<◌}
use Rattle.vw_encode.proofs.Rows.{kinds-length, kind-of}
use Rattle.vw_encode.proofs.kinds.candidates.Goals as goal

pub bounds-lists-kind : goal.bounds-lists-kind
bounds-lists-kind c =
    let len = kinds-length 0 c.kinds-lists.result.now c.kinds-lists.ensures in
    omega (arith, c.kind_of-kind.ensures.bound)

pub returns : goal.returns
returns c =
    let len = kinds-length 0 c.kinds-lists.result.now c.kinds-lists.ensures in
    let lt : c.kind_of-kind.result < length c.kinds-lists.result.now = omega (arith, c.kind_of-kind.ensures.bound) in
    kind-of c.kinds-lists.result.now c.kind_of-kind.result _ _ c.kinds-lists.ensures c.kind_of-kind.ensures.is lt
