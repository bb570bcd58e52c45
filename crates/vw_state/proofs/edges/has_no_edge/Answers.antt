use Rattle.std.proofs.Common.{◌≡◌, ◌∙◌, ◌+◌, ℕ, List, true, ap, sym, subst}
use Rattle.vw_rows.specs.Numbers.{IsBytes}
use Rattle.vw_stmt.specs.declared.operands.Var.{Var}
use Rattle.vw_lift.specs.Lifted.{steps, flow_of}
use Rattle.vw_domain.specs.Abstract.{Abstract}
use Rattle.vw_state.specs.Code.{BeginsAt}
use Rattle.vw_state.specs.Context.{code_of}
use Rattle.vw_state.specs.Post.{destinations, form_behind, begins, has_no_edge}
use Rattle.vw_state.proofs.EdgeStates.{no_edges}
use Rattle.vw_state.proofs.Sites.{site_code}
use Rattle.vw_state.proofs.edges.has_no_edge.Goals as goal

pub returns-clause-flow : goal.returns-clause-flow
returns-clause-flow c =
    let i = c.args.point.now.insn.now in
    c.has_flow_no_edge.ensures ∙ ap has_no_edge (c.last_flow-flow.ensures (steps i) (flow_of i) c.requires.point.lifted)

pub returns-clause-edges : goal.returns-clause-edges
returns-clause-edges c = λ yes f state is.
    let targets : Var → Abstract → List ℕ = destinations f in
    let at = c.args.point.now.at in
    let i = c.args.point.now.insn.now in
    let next = at + c.args.point.now.len in
    let code : c.args.code.now ≡ code_of f = c.requires.code ∙ site_code f c.args.site.now is in
    let bytes : IsBytes (code_of f) = subst IsBytes (c.as_bytes-code.ensures.same ∙ code) c.as_bytes-code.ensures.bytes in
    let stands = subst (λ (b : List ℕ). BeginsAt b at i c.args.point.now.len) code c.requires.point.stands.begins in
    let edges = c.edges_are_post.ensures.only f targets at state _ bytes (begins i c.args.point.now.len stands) in
    let flow : c.last_flow-flow.result ≡ flow_of i = c.last_flow-flow.ensures (steps i) (flow_of i) c.requires.point.lifted in
    let none : has_no_edge (flow_of i) ≡ true = sym (c.has_flow_no_edge.ensures ∙ ap has_no_edge flow) ∙ yes in
    sym edges ∙ no_edges f targets next (form_behind f next i state) (flow_of i) none
