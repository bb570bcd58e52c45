use Rattle.std.proofs.Common.{◌≡◌, ◌∙◌, ℕ, length, Option, sym, subst, arith}
use Rattle.vw_state.specs.declared.jumps.JumpTable.{JumpTable}
use Rattle.vw_graph.specs.search.Jumps.{AreMarked}
use Rattle.vw_graph.proofs.Leads.{AreMarkedBelow, target_inside, site_target, some_inside, one_marked, all_marked}
use Rattle.vw_graph.proofs.jumps.mark_targets.Goals as goal

pub mark_point-requires : goal.mark_point-requires
mark_point-requires c =
    some_inside c.target.result (length c.loop-i.marks.items) (λ to e.
    let less = target_inside c.args.site.now.image.now c.in-Some.table.base c.loop-i.i c.args.site.now.entry c.args.site.now.size to (sym c.target.ensures ∙ e) in
    omega (arith, less, c.loop-i.invariant.size, c.requires))

pub loop-i-preserved : goal.loop-i-preserved
loop-i-preserved c = record {
  size = c.mark_point.ensures.size ∙ c.loop-i.invariant.size;
  marked = λ f is. one_marked f c.in-Some.table c.loop-i.i c.args.mark c.args.marks.now.items c.loop-i.marks.items c.mark_point.new.marks.items c.target.result (c.loop-i.invariant.marked f is) (c.target.ensures ∙ site_target f c.args.site.now c.in-Some.table c.loop-i.i is) c.mark_point.ensures.here c.mark_point.ensures.others;
}

pub returns-clause-marks : goal.returns-clause-marks
returns-clause-marks c = λ f is.
    let M : Option JumpTable → Type 0 = λ slot. AreMarked f slot c.args.mark c.args.marks.now.items c.loop-i.marks.items in
    let B : ℕ → Type 0 = λ n. AreMarkedBelow f c.in-Some.table n c.args.mark c.args.marks.now.items c.loop-i.marks.items in
    let done : c.loop-i.i ≡ c.in-Some.table.count = omega (arith, c.loop-i-test.false, c.loop-i.auto.i-end) in
    subst M (sym c.in-Some.is) (all_marked f c.in-Some.table c.args.mark c.args.marks.now.items c.loop-i.marks.items (subst B done (c.loop-i.invariant.marked f is)))
