use mir.Val.{SFits}
use Rattle.std.proofs.Common.{◌≡◌, true, false, rules, w32, sym, ap, ◌∙◌, ◌++◌, ◌∷◌, []}
use Rattle.std.proofs.lemmas.Int.{to_z-of_z}
use Rattle.std.proofs.lemmas.Result.{on_ok_weaker}
use Rattle.vw_domain.specs.Abstract.{Abstract, abstract_of}
use Rattle.vw_domain.specs.Calls.{after_probe}
use Rattle.vw_domain.specs.StateOf.{state_of}
use Rattle.vw_state.specs.Post.{calls_probe}
use Rattle.vw_state.proofs.Sites.{same_calls, by_probe, by_function}
use Rattle.vw_state.proofs.flow_edges.append_after_direct.Goals as goal

pub returns-in_ok-call_probe-clause-ok : goal.returns-in_ok-call_probe-clause-ok
returns-in_ok-call_probe-clause-ok c = λ f is.
    let fits : SFits w32 c.args.rel = search rules in
    let read = c.calls_probe.ensures in
    let told = rw (to_z-of_z w32 c.args.rel fits) at read in
    let calls : calls_probe f c.args.next c.args.rel ≡ true = same_calls f c.args.site.now c.args.next c.args.rel is ∙ (sym told ∙ c.if-calls_probe.true) in
    let st = abstract_of c.args.state in
    on_ok_weaker c.append.result
    (λ e. e ∙ ap (λ (s : Abstract). c.args.out.now ++ (c.args.next, state_of s) ∷ []) (sym (by_probe f c.args.next c.args.rel st calls)))
    (c.append.ensures.ok (after_probe st) c.in_ok-call_probe.ensures.ok)

pub returns-else-calls_probe-clause-ok : goal.returns-else-calls_probe-clause-ok
returns-else-calls_probe-clause-ok c = λ f is.
    let fits : SFits w32 c.args.rel = search rules in
    let read = c.calls_probe.ensures in
    let told = rw (to_z-of_z w32 c.args.rel fits) at read in
    let calls : calls_probe f c.args.next c.args.rel ≡ false = same_calls f c.args.site.now c.args.next c.args.rel is ∙ (sym told ∙ c.if-calls_probe.false) in
    let st = abstract_of c.args.state in
    on_ok_weaker c.append_after_call.result
    (λ e. e ∙ ap (λ (s : Abstract). c.args.out.now ++ (c.args.next, state_of s) ∷ []) (sym (by_function f c.args.next c.args.rel st calls)))
    c.append_after_call.ensures.ok
