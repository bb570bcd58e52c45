use Rattle.std.proofs.Common.{◌≡◌, ◌∙◌, ap, sym, Some}
use Rattle.std.specs.List.{slice_get}
use Rattle.std.proofs.lemmas.Option.{slice_get-get_or}
use Rattle.vw_state.specs.Context.{context_of}
use Rattle.vw_verdict.proofs.Points.{passes_none, passes_more, passes_all, fails_first}
use Rattle.vw_verdict.proofs.failing.first_failing.Goals as goal

pub loop-point-init : goal.loop-point-init
loop-point-init c = λ f listed is. passes_none (context_of c.args.loaded.now f) c.args.states.now

pub returns-in-Some : goal.returns-in-Some
returns-in-Some c = λ f listed is.
    let item = c.point-item.result in
    let there : slice_get c.args.states.now c.loop-point.point-index ≡ Some item = slice_get-get_or c.args.states.now c.loop-point.point-index item c.loop-point-test.true ∙ ap Some (sym c.point-item.is) in
    fails_first (context_of c.args.loaded.now f) c.args.site.now.size c.args.states.now c.loop-point.point-index item c.in-Some.number c.requires.rises
    there (c.loop-point.invariant f listed is) (rw c.in-Some.is at (c.in_ok-number.ensures f listed is))

pub loop-point-preserved : goal.loop-point-preserved
loop-point-preserved c = λ f listed is.
    let item = c.point-item.result in
    let there : slice_get c.args.states.now c.loop-point.point-index ≡ Some item = slice_get-get_or c.args.states.now c.loop-point.point-index item c.loop-point-test.true ∙ ap Some (sym c.point-item.is) in
    passes_more (context_of c.args.loaded.now f) c.args.states.now c.loop-point.point-index item
    there (c.loop-point.invariant f listed is) (rw c.in_default.is at (c.in_ok-number.ensures f listed is))

pub returns : goal.returns
returns c = λ f listed is. passes_all (context_of c.args.loaded.now f) c.args.states.now c.loop-point.point-index c.loop-point-test.false (c.loop-point.invariant f listed is)
