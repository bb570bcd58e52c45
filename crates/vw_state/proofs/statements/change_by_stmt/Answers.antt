use Rattle.std.proofs.Common.{ap, ◌∙◌}
use Rattle.std.proofs.lemmas.Result.{on_ok_weaker}
use Rattle.vw_domain.specs.Abstract.{abstract_of}
use Rattle.vw_domain.specs.Sites.{Site as EquationSite}
use Rattle.vw_domain.specs.Statements.{apply}
use Rattle.vw_state.proofs.Sites.{same_site}
use Rattle.vw_state.proofs.statements.change_by_stmt.Goals as goal

pub returns-clause-form : goal.returns-clause-form
returns-clause-form c =
    on_ok_weaker c.change.result
    (λ e f is. e ∙ ap (λ (site : EquationSite). apply site c.args.stmt.now (abstract_of c.args.state.now)) (same_site f c.args.site.now c.args.next is))
    c.change.ensures.form
