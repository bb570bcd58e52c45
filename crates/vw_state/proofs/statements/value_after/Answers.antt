use Rattle.std.proofs.Common.{ap, ◌∙◌}
use Rattle.vw_domain.specs.declared.parts.Parts.{Parts}
use Rattle.vw_domain.specs.Abstract.{Abstract, abstract_of}
use Rattle.vw_domain.specs.Addresses.{value_of}
use Rattle.vw_domain.specs.Operands.{index_of}
use Rattle.vw_domain.specs.Sites.{Site as EquationSite}
use Rattle.vw_domain.specs.Statements.{applies}
use Rattle.vw_state.specs.Context.{equation_site}
use Rattle.vw_state.proofs.Sites.{same_site}
use Rattle.vw_state.proofs.statements.value_after.Goals as goal

pub returns : goal.returns
returns c = λ f is.
    c.known_of.ensures.value
    ∙ ap (λ (st : Abstract). value_of st (index_of c.args.var))
    (c.in_ok-change_all.ensures.form
    ∙ (ap (λ (s : Parts). applies (equation_site c.args.site.now c.args.next) c.args.stmts.now (abstract_of s)) c.in_ok-after.ensures
    ∙ ap (λ (e : EquationSite). applies e c.args.stmts.now (abstract_of c.args.state.now)) (same_site f c.args.site.now c.args.next is)))
