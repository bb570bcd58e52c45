use Rattle.std.proofs.Common.{ap, ◌∙◌}
use Rattle.std.proofs.lemmas.Result.{on_ok_weaker}
use Rattle.vw_domain.specs.Abstract.{abstract_of}
use Rattle.vw_domain.specs.Sites.{Site as EquationSite}
use Rattle.vw_domain.specs.Statements.{applies}
use Rattle.vw_state.proofs.Sites.{same_site}
use Rattle.vw_state.proofs.statements.change_by_stmts.Goals as goal

pub returns-clause-form : goal.returns-clause-form
returns-clause-form c =
    on_ok_weaker c.change_all.result
    (λ e f is. e ∙ ap (λ (site : EquationSite). applies site c.args.stmts.now (abstract_of c.args.state.now)) (same_site f c.args.site.now c.args.next is))
    c.change_all.ensures.form
