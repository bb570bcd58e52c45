use Rattle.std.proofs.Common.{◌≡◌, ◌∙◌, ◌++◌, ℕ, List, [], ap, sym, subst, refl}
use Rattle.std.specs.List.{All}
use Rattle.std.proofs.lemmas.List.Elements.{All-nil}
use Rattle.vw_domain.specs.declared.parts.Parts.{Parts}
use Rattle.vw_state.specs.Code.{NothingAt}
use Rattle.vw_state.specs.Context.{context_of, code_of}
use Rattle.vw_state.specs.Post.{destinations, edges_at, nothing}
use Rattle.vw_state.specs.Solution.{Lands}
use Rattle.vw_state.proofs.Sites.{site_code}
use Rattle.vw_recheck.proofs.Points.{false_true, edge_out, edges_land}
use Rattle.vw_recheck.proofs.table.failing_at.Goals as goal

pub returns-in_default-clause-lowest : goal.returns-in_default-clause-lowest
returns-in_default-clause-lowest c = λ f listed is.
    let context = context_of c.args.loaded.now f in
    let states = c.args.states.now in
    let at = c.args.point.now.at in
    let state = c.args.point.now.state in
    let code = c.requires.code ∙ site_code context c.args.site.now is in
    let none : NothingAt c.args.code.now at = rw c.in_default.is at c.instruction_at.ensures.none in
    let edges = c.edges_are_post.ensures.only context (destinations context) at state [] (c.codes_are_bytes.ensures f) (nothing (subst (λ (xs : List ℕ). NothingAt xs at) code none)) in
    edges_land context states at state c.in_ok-lacking.lacking
    (subst (λ (es : List (ℕ × Parts)). All (Lands context states) es) edges (All-nil (Lands context states)))
    (c.in_ok-lacking.ensures f listed is)

pub returns-then-has_no_edge-clause-lowest : goal.returns-then-has_no_edge-clause-lowest
returns-then-has_no_edge-clause-lowest c = λ f listed is.
    let context = context_of c.args.loaded.now f in
    let states = c.args.states.now in
    let at = c.args.point.now.at in
    let state = c.args.point.now.state in
    let none : edges_at context at state ≡ [] = c.has_no_edge.ensures.edges c.if-has_no_edge.true context state is in
    edges_land context states at state c.in_ok-number.number
    (subst (λ (es : List (ℕ × Parts)). All (Lands context states) es) (sym none) (All-nil (Lands context states)))
    (rw c.in_ok-state.ensures.copy at (c.in_ok-number.ensures.lowest f listed is))

pub returns-then-not-all_land-clause-lowest : goal.returns-then-not-all_land-clause-lowest
returns-then-not-all_land-clause-lowest c = λ f listed is.
    let context = context_of c.args.loaded.now f in
    let states = c.args.states.now in
    let at = c.args.point.now.at in
    let state = c.args.point.now.state in
    let edges = edges_at context at state in
    let behind = rw c.in_ok-state.ensures.copy at (c.in_ok-number.ensures.behind context is) in
    let same = c.as_slice-3.ensures ∙ (c.in_ok-post_behind.ensures.edges context state is behind ∙ ap (λ (front : List (ℕ × Parts)). front ++ edges) c.state_in.ensures.empty) in
    edge_out context states at state
    (λ all. false_true ((c.if-not-all_land.ensures context is).1 (subst (λ (es : List (ℕ × Parts)). All (Lands context states) es) (sym same) all)))

pub returns-clause-lowest : goal.returns-clause-lowest
returns-clause-lowest c = λ f listed is.
    let context = context_of c.args.loaded.now f in
    let states = c.args.states.now in
    let at = c.args.point.now.at in
    let state = c.args.point.now.state in
    let edges = edges_at context at state in
    let behind = rw c.in_ok-state.ensures.copy at (c.in_ok-number.ensures.behind context is) in
    let same = c.as_slice-3.ensures ∙ (c.in_ok-post_behind.ensures.edges context state is behind ∙ ap (λ (front : List (ℕ × Parts)). front ++ edges) c.state_in.ensures.empty) in
    edges_land context states at state c.in_ok-number.number
    (subst (λ (es : List (ℕ × Parts)). All (Lands context states) es) same ((c.if-not-all_land.ensures context is).0 refl))
    (rw c.in_ok-state.ensures.copy at (c.in_ok-number.ensures.lowest f listed is))

pub returns-then-goes_on-clause-lowest : goal.returns-then-goes_on-clause-lowest
returns-then-goes_on-clause-lowest c = λ f listed is.
    let context = context_of c.args.loaded.now f in
    let states = c.args.states.now in
    let at = c.args.point.now.at in
    let state = c.args.point.now.state in
    let edges = edges_at context at state in
    let behind = rw c.in_ok-state.ensures.copy at (c.in_ok-number.ensures.behind context is) in
    let same = c.as_slice-2.ensures ∙ (c.in_ok-post_behind.ensures.edges context state is behind ∙ ap (λ (front : List (ℕ × Parts)). front ++ edges) c.state_in.ensures.empty) in
    edges_land context states at state c.in_ok-number.number
    (subst (λ (es : List (ℕ × Parts)). All (Lands context states) es) same (c.if-goes_on.ensures.lands refl context is))
    (rw c.in_ok-state.ensures.copy at (c.in_ok-number.ensures.lowest f listed is))
