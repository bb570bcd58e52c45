use Rattle.std.proofs.Common.{◌≡◌, ◌∙◌, ◌+◌, ℕ, ap, arith, rules, subst, sym, refl, Some}
use Rattle.std.specs.List.{slice_get}
use Rattle.std.proofs.lemmas.Option.{slice_get-get_or}
use Rattle.vw_domain.specs.declared.parts.Parts.{Parts}
use Rattle.vw_state.specs.Context.{context_of}
use Rattle.vw_state.specs.Post.{destinations}
use Rattle.vw_state.specs.Solution.{Lands}
use Rattle.vw_recheck.specs.Places.{IsEdgeTo}
use Rattle.vw_recheck.proofs.Points.{false_true, safe_none, safe_more, safe_all, unordered_first, begins_first, fails_first}
use Rattle.vw_recheck.proofs.table.lowest_in.Goals as goal

pub returns-then-not-points_ascend : goal.returns-then-not-points_ascend
returns-then-not-points_ascend c = λ f listed is. unordered_first (context_of c.args.loaded.now f) c.args.states.now (λ ascend. false_true (c.if-not-points_ascend.ensures.1 ascend))

pub returns-then-not-lands : goal.returns-then-not-lands
returns-then-not-lands c = λ f listed is. begins_first (context_of c.args.loaded.now f) c.args.states.now
    (λ lands. false_true ((c.if-not-lands.ensures (context_of c.args.loaded.now f) is).1 (subst (λ (s : Parts). Lands (context_of c.args.loaded.now f) c.args.states.now (0, s)) (sym c.requires.start) lands)))

pub returns-in-Some : goal.returns-in-Some
returns-in-Some c = λ f listed is.
    let item = c.point-item.result in
    let there : slice_get c.args.states.now c.loop-point.point-index ≡ Some item = slice_get-get_or c.args.states.now c.loop-point.point-index item c.loop-point-test.true ∙ ap Some (sym c.point-item.is) in
    fails_first (context_of c.args.loaded.now f) c.args.states.now c.loop-point.point-index item c.in-Some.number
    (c.if-not-points_ascend.ensures.0 refl) (subst (λ (s : Parts). Lands (context_of c.args.loaded.now f) c.args.states.now (0, s)) c.requires.start ((c.if-not-lands.ensures (context_of c.args.loaded.now f) is).0 refl))
    there (c.loop-point.invariant.safe f listed is) (rw c.in-Some.is at (c.in_ok-number.ensures.lowest f listed is))

pub failing_at-requires-clause-goes_on : goal.failing_at-requires-clause-goes_on
failing_at-requires-clause-goes_on c = λ goes.
    let item = c.point-item.result in
    let there : slice_get c.args.states.now c.loop-point.point-index ≡ Some item = slice_get-get_or c.args.states.now c.loop-point.point-index item c.loop-point-test.true ∙ ap Some (sym c.point-item.is) in
    c.loop-point.invariant.goes_on goes item there

pub loop-point-init : goal.loop-point-init
loop-point-init c = record {
  safe = λ f listed is. safe_none (context_of c.args.loaded.now f) c.args.states.now;
  goes_on = λ goes. absurd (search rules);
  near = refl;
}

pub loop-point-preserved : goal.loop-point-preserved
loop-point-preserved c =
    let item = c.point-item.result in
    let index = c.loop-point.point-index in
    let there : slice_get c.args.states.now index ≡ Some item = slice_get-get_or c.args.states.now index item c.loop-point-test.true ∙ ap Some (sym c.point-item.is) in
    let next : c.saturating_add-near.result ≡ index + 1 = omega arith in
    record {
      safe = λ f listed is. safe_more (context_of c.args.loaded.now f) c.args.states.now index item
          there (c.loop-point.invariant.safe f listed is) (rw c.in_default.is at (c.in_ok-number.ensures.lowest f listed is));
      goes_on = λ goes. subst (λ (n : ℕ). IsEdgeTo c.args.states.now n c.failing_at.new.used.edges) next (c.in_ok-number.ensures.goes_on goes);
      near = next;
    }

pub returns : goal.returns
returns c = λ f listed is.
    let context = context_of c.args.loaded.now f in
    safe_all context c.args.states.now c.loop-point.point-index
    (λ at state edges post. c.edges_are_post.ensures.only context (destinations context) at state edges (c.codes_are_bytes.ensures f) post)
    (c.code_is_short.ensures context.image context.entry context.size)
    c.loop-point-test.false (c.if-not-points_ascend.ensures.0 refl) (subst (λ (s : Parts). Lands context c.args.states.now (0, s)) c.requires.start ((c.if-not-lands.ensures context is).0 refl)) (c.loop-point.invariant.safe f listed is)
