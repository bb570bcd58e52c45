use Rattle.std.proofs.Common.{sym, ◌∙◌, ap, ◌++◌, ◌∷◌, []}
use Rattle.std.proofs.lemmas.Result.{on_ok_weaker}
use Rattle.vw_domain.specs.declared.parts.Parts.{Parts}
use Rattle.vw_domain.specs.StateOf.{state_of}
use Rattle.vw_state.proofs.EdgeStates.{again}
use Rattle.vw_state.proofs.flow_edges.append.Goals as goal

pub returns-clause-ok : goal.returns-clause-ok
returns-clause-ok c = λ form is.
    let whole = again c.states_have_forms.ensures.forms c.states_have_forms.ensures.bounds c.states_have_forms.ensures.built c.forms_tell_states.ensures.states c.args.state c.is_state.ensures in
    on_ok_weaker c.push.result (λ e. e ∙ ap (λ (s : Parts). c.args.out.now ++ (c.args.to, s) ∷ []) (sym whole ∙ ap state_of is)) c.push.ensures.ok
