use Rattle.std.proofs.Common.{◌≡◌, ◌∙◌, ℕ, ◌<◌, Some, sym, ap, subst, arith, inl, inr}
use Rattle.std.proofs.lemmas.Bool.{cases_eq}
use Rattle.vw_state.specs.Post.{entry_target}
use Rattle.vw_graph.proofs.Leads.{mark_at, target_inside, site_target, leads_have, leads_are}
use Rattle.vw_graph.proofs.jumps.leads_beyond.Goals.{in-Some+else-marks-to, in_default}
use Rattle.vw_graph.proofs.jumps.leads_beyond.Goals as goal

pub bounds-marks-to : goal.bounds-marks-to
bounds-marks-to c =
    let less : c.in-Some.to < c.args.site.now.size = target_inside c.args.site.now.image.now c.args.table.base c.loop-i.i c.args.site.now.entry c.args.site.now.size c.in-Some.to (sym c.target.ensures ∙ c.in-Some.is) in
    omega (arith, less, c.requires)

pub returns-then-marks-to : goal.returns-then-marks-to
returns-then-marks-to c = λ f is.
    let leads : entry_target f c.args.table c.loop-i.i ≡ Some c.in-Some.to = sym (c.target.ensures ∙ site_target f c.args.site.now c.args.table c.loop-i.i is) ∙ c.in-Some.is in
    record {
      to = c.in-Some.to;
      leads = leads_have f c.args.table c.in-Some.to (record { entry = c.loop-i.i; less = c.loop-i-test.true; leads = leads });
      unmarked = c.if-marks-to.true;
    }

pub loop-i-preserved : goal.loop-i-preserved
loop-i-preserved c = λ f is to below.
    elim (cases_eq below.entry c.loop-i.i) [
      | inl same ↦
          let leads : c.target.result ≡ Some to = c.target.ensures ∙ (site_target f c.args.site.now c.args.table c.loop-i.i is ∙ (ap (λ (n : ℕ). entry_target f c.args.table n) (sym same) ∙ below.leads)) in
          elim c.match-target.branch [
            | in-Some+else-marks-to w ↦ let one : w.in-Some.to ≡ to = cc (leads, w.in-Some.is) in let M : ℕ → Type 0 = λ n. mark_at c.args.marks.now n ≡ c.args.mark in subst M one w.if-marks-to.false
            | in_default w ↦ absurd (w.in_default.not-Some to leads)
          ]
      | inr other ↦ c.loop-i.invariant f is to (record { entry = below.entry; less = omega (arith, below.less, other); leads = below.leads })
    ]

pub returns : goal.returns
returns c = λ f is to leads.
    let below = leads_are f c.args.table to leads in
    c.loop-i.invariant f is to (record { entry = below.entry; less = omega (arith, below.less, c.loop-i-test.false, c.loop-i.auto.i-end); leads = below.leads })
