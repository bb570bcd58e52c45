use Rattle.std.proofs.Common.{ap, ◌∙◌}
use Rattle.vw_domain.specs.declared.parts.Parts.{Parts}
use Rattle.vw_domain.specs.Abstract.{Abstract, abstract_of}
use Rattle.vw_domain.specs.Sites.{Site as EquationSite}
use Rattle.vw_domain.specs.Statements.{applies, finish}
use Rattle.vw_state.specs.Context.{site_at}
use Rattle.vw_state.proofs.Sites.{same_site}
use Rattle.vw_state.proofs.statements.apply.Goals as goal

pub returns-clause-ok : goal.returns-clause-ok
returns-clause-ok c = λ f is.
    c.finish.ensures.form
    ∙ ap (λ (a : Abstract). finish a) (c.in_ok-change_all.ensures.form
    ∙ (ap (λ (e : EquationSite). applies e c.args.stmts.now (abstract_of c.in_ok-after.after)) (same_site f c.args.site.now c.args.next is)
    ∙ ap (λ (p : Parts). applies (site_at f c.args.next) c.args.stmts.now (abstract_of p)) c.in_ok-after.ensures))

pub returns-clause-fits : goal.returns-clause-fits
returns-clause-fits c fits = c.finish.ensures.fits c.args.site.now.bounds.now (c.in_ok-change_all.ensures.fits (rw (← c.in_ok-after.ensures) at fits))
