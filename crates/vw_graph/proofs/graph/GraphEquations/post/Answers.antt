use Rattle.std.proofs.Common.{◌≡◌, ◌∙◌, ℕ, ◌+◌, ◌<◌, ◌≤◌, List, ◌++◌, OnOk, length, Option, All, sym, ap, subst, arith}
use Rattle.std.specs.List.{Contains}
use Rattle.std.proofs.lemmas.Result.{on_ok_weaker}
use Rattle.vw_stmt.specs.declared.operands.Var.{Var}
use Rattle.vw_domain.specs.declared.parts.Parts.{Parts}
use Rattle.vw_domain.specs.Abstract.{Abstract}
use Rattle.vw_state.specs.declared.jumps.JumpTable.{JumpTable}
use Rattle.vw_state.specs.Context.{Context, context_of, code_of}
use Rattle.vw_state.specs.Post.{seconds, table_targets, edges_with}
use Rattle.vw_graph.specs.search.Jumps.{slot_at, pairs_of}
use Rattle.vw_graph.proofs.Leads.{leads_inside}
use Rattle.vw_graph.proofs.PairsOf.{seconds_are}
use Rattle.vw_graph.proofs.Solving.{Equations, edges_of}
use Rattle.vw_graph.proofs.Targets.{post_points, site_code, site_bytes}
use Rattle.vw_graph.proofs.graph.GraphEquations.post.Goals as goal

pub returns-clause-targets : goal.returns-clause-targets
returns-clause-targets g c =
    let f : Context = context_of c.self.inside.loaded.now c.self.inside.declared.now in
    let slots : List (Option JumpTable) = c.self.inside.jumps.now in
    let is = c.self.invariant in
    let at : ℕ = c.args.at in
    let state : Parts = c.args.state.now in
    let targets : Var → Abstract → List ℕ = λ src st. seconds at (pairs_of f slots) in
    let within : (src : Var) (st : Abstract) (to : ℕ) → Contains (targets src st) to → to < f.size + 1 = λ src st to c'.
    let C : List ℕ → Type 0 = λ zs. Contains zs to in
    let less = leads_inside f (slot_at slots at) to (subst C (seconds_are f slots at) c') in omega (arith, less)
    in
    let short : length (code_of f) ≤ f.size = subst (λ (code : List ℕ). length code ≤ f.size) (is.code_is ∙ site_code f c.self.inside.site is.is_site) is.short in
    let bytes = site_bytes f c.self.inside.site c.self.inside.code.now c.self.inside.points is in
    let all : All (λ (edge : ℕ × Parts). edge.0 < f.size + 1) (edges_with f (pairs_of f slots) at state) = post_points f targets within short at state (edges_with f (pairs_of f slots) at state) (c.edges_are_post.ensures.are f targets at state bytes) in
    let all_of : All (λ (edge : ℕ × Parts). edge.0 < c.args.self.now.0.size + 1) (edges_of c.args.self.now at state) = subst (λ (h : Equations). All (λ (edge : ℕ × Parts). edge.0 < h.0.size + 1) (edges_of h at state)) c.self.view_is all in
    on_ok_weaker c.post_with.result (λ post. all_of) (c.post_with.ensures.edges f (pairs_of f slots) is.is_site (seconds_are f slots at ∙ ap (λ (o : Option JumpTable). table_targets f o) (sym c.slot-table.ensures)))

pub returns-clause-ok : goal.returns-clause-ok
returns-clause-ok g c =
    let f : Context = context_of c.self.inside.loaded.now c.self.inside.declared.now in
    let slots : List (Option JumpTable) = c.self.inside.jumps.now in
    let at : ℕ = c.args.at in
    subst (λ (h : Equations). OnOk c.post_with.result (c.post_with.new.out ≡ c.args.out.now ++ edges_of h at c.args.state.now)) c.self.view_is
    (c.post_with.ensures.edges f (pairs_of f slots) c.self.invariant.is_site (seconds_are f slots at ∙ ap (λ (o : Option JumpTable). table_targets f o) (sym c.slot-table.ensures)))
