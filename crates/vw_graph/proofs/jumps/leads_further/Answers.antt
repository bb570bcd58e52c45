use Rattle.std.proofs.Common.{Option, sym, subst}
use Rattle.std.specs.Prelude.{MatchBool}
use Rattle.vw_state.specs.declared.jumps.JumpTable.{JumpTable}
use Rattle.vw_graph.specs.search.Jumps.{LeadsFurther, LeadsNoFurther}
use Rattle.vw_graph.proofs.Leads.{some_context, marks_at_most, further_by}
use Rattle.vw_graph.proofs.jumps.leads_further.Goals as goal

pub returns-clause-used : goal.returns-clause-used
returns-clause-used c =
    let s = some_context c.args.site.now in
    marks_at_most s.0 c.args.before c.args.mark c.args.marks.now.items c.mark_targets.new.marks.items (c.mark_targets.ensures.marks s.0 s.1) c.requires.unused

pub returns-clause-leads : goal.returns-clause-leads
returns-clause-leads c = λ f is.
    let L : Option JumpTable → Type 0 = λ now. MatchBool c.leads_beyond.result (LeadsFurther f c.args.before now) (LeadsNoFurther f c.args.before now) in
    subst L (sym c.in-Some.is)
    (further_by f c.args.before _ c.args.mark c.args.marks.now.items c.mark_targets.new.marks.items c.as_slice.result.now c.leads_beyond.result (c.mark_targets.ensures.marks f is) c.requires.unused c.as_slice.ensures.value (c.leads_beyond.ensures f is))
