use Rattle.std.proofs.Common.{Option, subst}
use Rattle.vw_state.specs.declared.jumps.JumpTable.{JumpTable}
use Rattle.vw_graph.specs.search.Jumps.{slot_at, LeadsFurther, LeadsNoFurther}
use Rattle.vw_graph.proofs.Further.{no_further_point, further_point}
use Rattle.vw_graph.proofs.jumps.look_further.Goals as goal

pub returns-then-not-leads_further-clause-new : goal.returns-then-not-leads_further-clause-new
returns-then-not-leads_further-clause-new c = λ f is are.
    let N : Option JumpTable → Type 0 = λ slot. LeadsNoFurther f slot c.slot-2.result in
    let M = λ (slot : Option JumpTable). LeadsNoFurther f (slot_at c.args.before.now c.args.point) slot in
    no_further_point f c.args.before.now c.args.now.now c.args.point c.args.points.now.keys are (subst M c.slot-2.ensures (subst N c.slot.ensures (c.if-not-leads_further.ensures.leads f is)))

pub returns-clause-new : goal.returns-clause-new
returns-clause-new c = λ f is are.
    let N : Option JumpTable → Type 0 = λ slot. LeadsFurther f slot c.slot-2.result in
    let M = λ (slot : Option JumpTable). LeadsFurther f (slot_at c.args.before.now c.args.point) slot in
    rw c.in_ok-insert.ensures.keys (further_point f c.args.before.now c.args.now.now c.args.point c.args.points.now.keys are (subst M c.slot-2.ensures (subst N c.slot.ensures (c.if-not-leads_further.ensures.leads f is))))
