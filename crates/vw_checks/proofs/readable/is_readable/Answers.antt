use Rattle.std.proofs.Common.{arith}
use Rattle.vw_checks.proofs.Readings.{nothing_beyond}
use Rattle.vw_checks.proofs.readable.is_readable.Goals as goal
use Rattle.vw_checks.proofs.readable.is_readable.Goals.{then-at-via-then-at, then-at-via-else-at+then-count}

pub returns-then-at : goal.returns-then-at
returns-then-at c = elim c.then-at.branch [
  | then-at-via-then-at w ↦ nothing_beyond c.args.image.now c.bytes-bytes.ensures.whole c.segments_are_bounded.ensures c.args.at c.args.count (omega (arith, w.if-at.true))
  | then-at-via-else-at+then-count w ↦ nothing_beyond c.args.image.now c.bytes-bytes.ensures.whole c.segments_are_bounded.ensures c.args.at c.args.count (omega (arith, w.if-count.true))
]
