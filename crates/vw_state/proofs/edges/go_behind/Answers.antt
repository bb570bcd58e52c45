use Rattle.std.proofs.Common.{◌∙◌, List, ap}
use Rattle.std.proofs.lemmas.Result.{on_ok_weaker}
use Rattle.vw_stmt.specs.declared.statement.Stmt.{Stmt}
use Rattle.vw_lift.specs.Lifted.{steps, flow_of}
use Rattle.vw_domain.specs.Abstract.{abstract_of}
use Rattle.vw_domain.specs.Sites.{Site}
use Rattle.vw_domain.specs.Statements.{applies}
use Rattle.vw_state.specs.Context.{site_at}
use Rattle.vw_state.proofs.Flows.{applies_flow}
use Rattle.vw_state.proofs.Sites.{same_site}
use Rattle.vw_state.proofs.edges.go_behind.Goals as goal

pub returns-clause-form : goal.returns-clause-form
returns-clause-form c = λ f i is same.
    let next = c.args.next in
    let st = abstract_of c.args.state.now in
    on_ok_weaker c.change_all.result
    (λ e.
    e
    ∙ (ap (λ (site : Site). applies site c.args.stmts.now st) (same_site f c.args.site.now next is)
    ∙ (ap (λ (stmts : List Stmt). applies (site_at f next) stmts st) same
    ∙ applies_flow (site_at f next) (steps i) (flow_of i) st)))
    c.change_all.ensures.form
