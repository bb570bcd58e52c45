use Rattle.std.proofs.Common.{◌≡◌, ◌∙◌, ◌≤◌, ℕ, List, length, ◌+◌, ap, sym, subst, arith}
use Rattle.std.proofs.lemmas.Result.{on_ok_weaker}
use Rattle.vw_rows.specs.Numbers.{IsBytes}
use Rattle.vw_stmt.specs.declared.operands.Var.{Var}
use Rattle.vw_stmt.specs.declared.statement.Stmt.{Stmt}
use Rattle.vw_lift.specs.Lifted.{steps, flow_of}
use Rattle.vw_domain.specs.Abstract.{Abstract, abstract_of}
use Rattle.vw_domain.specs.Statements.{applies}
use Rattle.vw_state.specs.Code.{BeginsAt}
use Rattle.vw_state.specs.Context.{code_of, site_at}
use Rattle.vw_state.specs.Post.{table_targets, destinations, form_behind, begins}
use Rattle.vw_state.proofs.EdgeStates.{read_edges}
use Rattle.vw_state.proofs.Flows.{applies_flow}
use Rattle.vw_state.proofs.Sites.{site_code, code_size}
use Rattle.vw_state.proofs.edges.post_behind.Goals as goal

pub returns-clause-edges : goal.returns-clause-edges
returns-clause-edges c = λ f state is from.
    let targets : Var → Abstract → List ℕ = destinations f in
    let at = c.args.point.now.at in
    let i = c.args.point.now.insn.now in
    let next = at + c.args.point.now.len in
    let code : c.args.code.now ≡ code_of f = c.requires.code ∙ site_code f c.args.site.now is in
    let bytes : IsBytes (code_of f) = subst IsBytes (c.as_bytes-code.ensures.same ∙ code) c.as_bytes-code.ensures.bytes in
    let stands = subst (λ (b : List ℕ). BeginsAt b at i c.args.point.now.len) code c.requires.point.stands.begins in
    let edges = c.edges_are_post.ensures.only f targets at state _ bytes (begins i c.args.point.now.len stands) in
    let flow : c.last_flow-flow.result ≡ flow_of i = c.last_flow-flow.ensures (steps i) (flow_of i) c.requires.point.lifted in
    let behind : abstract_of c.args.behind ≡ form_behind f next i state =
    from
    ∙ (ap (λ (stmts : List Stmt). applies (site_at f next) stmts (abstract_of state)) c.requires.point.lifted
    ∙ applies_flow (site_at f next) (steps i) (flow_of i) (abstract_of state)) in
    on_ok_weaker c.append_flow.result
    (λ e. read_edges f targets next i state (abstract_of c.args.behind) c.last_flow-flow.result c.args.out.now c.append_flow.new.out _ behind flow edges e)
    (c.append_flow.ensures.ok f targets is (λ src jumps. ap (table_targets f) (sym (c.table_told-table.ensures src jumps))))

pub overflow_add-next : goal.overflow_add-next
overflow_add-next c =
    let site = c.args.site.now in
    let short : length c.args.code.now ≤ site.size = subst (λ (code : List ℕ). length code ≤ site.size) (sym c.requires.code) (code_size site.image.now site.entry site.size) in
    omega (arith, short, c.requires.point.stands.begins.inside)
