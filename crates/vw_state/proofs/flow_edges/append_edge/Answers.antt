use Rattle.std.proofs.Common.{◌≡◌, ℕ, List, refl, sym, subst, ap, ◌∙◌, ◌++◌, map, Option, Some, OnOk, None}
use Rattle.std.proofs.lemmas.Bool.{false≢true}
use Rattle.std.proofs.lemmas.List.{append-nil}
use Rattle.std.proofs.lemmas.Result.{on_ok_weaker}
use Rattle.vw_values.specs.Bounds.{IsBounds}
use Rattle.vw_domain.specs.declared.parts.Parts.{Parts}
use Rattle.vw_domain.specs.declared.refines.Comparison.{Comparison}
use Rattle.vw_domain.specs.Abstract.{Abstract, abstract_of}
use Rattle.vw_domain.specs.Branches.{MayGo, frame_places, edge_state}
use Rattle.vw_domain.specs.FormLaws.{StatesHaveForms, StatesNameBounds}
use Rattle.vw_domain.specs.FormRanges.{IsStateForm}
use Rattle.vw_domain.specs.Refines.{rule_told}
use Rattle.vw_domain.specs.State.{IsState}
use Rattle.vw_state.specs.Context.{site_at}
use Rattle.vw_state.specs.Edges.{Tells}
use Rattle.vw_state.specs.Post.{branch_edge, with_state}
use Rattle.vw_state.proofs.EdgeStates.{untold, taken, untaken}
use Rattle.vw_state.proofs.flow_edges.append_edge.Goals as goal

form_of : StatesHaveForms → StatesNameBounds → (s : Parts) → IsState s → (members : List ℕ) × IsStateForm members (abstract_of s)
form_of have name s is = let names = name s is in (names.0, have names.0 s (record { state = is; fits = names.2 }))

pub returns-in-None-told-clause-ok : goal.returns-in-None-told-clause-ok
returns-in-None-told-clause-ok c = λ f next rule is told.
    let st = abstract_of c.args.state in
    let form = form_of c.states_have_forms.ensures.forms c.states_have_forms.ensures.bounds c.args.state c.is_state.ensures in
    let bounds : IsBounds f.bounds = subst IsBounds (sym is.bounds) c.are_bounds.ensures in
    let tells : Tells None rule = subst (λ (t : Option Comparison). Tells t rule) c.in-None-told.is told in
    let edge = untold c.edges_are_decided.ensures f next bounds st form.0 form.1 c.in-Some.point rule tells in
    let at : Option ℕ → Type 0 = λ to. OnOk c.append.result (c.append.new.out ≡ c.args.out.now ++ map with_state (branch_edge f next st rule to)) in
    subst at (sym c.in-Some.is)
    (on_ok_weaker c.append.result (λ e. e ∙ ap (λ (es : List (ℕ × Abstract)). c.args.out.now ++ map with_state es) (sym edge)) (c.append.ensures.ok st refl))

pub returns-then-take_edge-clause-ok : goal.returns-then-take_edge-clause-ok
returns-then-take_edge-clause-ok c = λ f next rule is told.
    let st = abstract_of c.args.state in
    let form = form_of c.states_have_forms.ensures.forms c.states_have_forms.ensures.bounds c.args.state c.is_state.ensures in
    let bounds : IsBounds f.bounds = subst IsBounds (sym is.bounds) c.are_bounds.ensures in
    let comparison = c.in-Some-told.comparison in
    let tells : Tells (Some comparison) rule = subst (λ (t : Option Comparison). Tells t rule) c.in-Some-told.is told in
    let holds = c.frame_holds_places.ensures c.args.state c.is_state.ensures in
    let may = (c.take_edge.ensures.edge (site_at f next) frame_places is.bounds holds).0 c.if-take_edge.true in
    let edge = taken c.edges_are_decided.ensures f next bounds st form.0 form.1 c.in-Some.point rule comparison tells may in
    let carried = edge_state (site_at f next) frame_places st (Some (rule_told comparison)) in
    let at : Option ℕ → Type 0 = λ to. OnOk c.append-then-take_edge.result (c.append-then-take_edge.new.out ≡ c.args.out.now ++ map with_state (branch_edge f next st rule to)) in
    subst at (sym c.in-Some.is)
    (on_ok_weaker c.append-then-take_edge.result (λ e. e ∙ ap (λ (es : List (ℕ × Abstract)). c.args.out.now ++ map with_state es) (sym edge))
    (c.append-then-take_edge.ensures.ok carried (c.take_edge.ensures.form (site_at f next) frame_places is.bounds holds)))

pub returns-else-take_edge-clause-ok : goal.returns-else-take_edge-clause-ok
returns-else-take_edge-clause-ok c = λ f next rule is told.
    let st = abstract_of c.args.state in
    let form = form_of c.states_have_forms.ensures.forms c.states_have_forms.ensures.bounds c.args.state c.is_state.ensures in
    let bounds : IsBounds f.bounds = subst IsBounds (sym is.bounds) c.are_bounds.ensures in
    let comparison = c.in-Some-told.comparison in
    let tells : Tells (Some comparison) rule = subst (λ (t : Option Comparison). Tells t rule) c.in-Some-told.is told in
    let holds = c.frame_holds_places.ensures c.args.state c.is_state.ensures in
    let refused = c.if-take_edge.false in
    let never = λ (may : MayGo (site_at f next) frame_places st (Some (rule_told comparison))). let goes = (c.take_edge.ensures.edge (site_at f next) frame_places is.bounds holds).1 may in absurd (false≢true (sym refused ∙ goes)) in
    let edge = untaken c.edges_are_decided.ensures f next bounds st form.0 form.1 c.in-Some.point rule comparison tells never in
    let at : Option ℕ → Type 0 = λ to. c.args.out.now ≡ c.args.out.now ++ map with_state (branch_edge f next st rule to) in
    subst at (sym c.in-Some.is)
    (sym (append-nil c.args.out.now) ∙ ap (λ (es : List (ℕ × Abstract)). c.args.out.now ++ map with_state es) (sym edge))
