use Rattle.vw_domain.proofs.PartLemmas.{values_push}
use Rattle.vw_domain.proofs.state_parts.values_of.Goals as goal

pub loop-i-preserved : goal.loop-i-preserved
loop-i-preserved c = rw c.in_ok-push.ensures.ok (values_push c.loop-i.i c.args.row.now c.loop-i.values c.value_at.result c.loop-i.invariant c.value_at.ensures)
