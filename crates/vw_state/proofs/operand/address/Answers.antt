use Rattle.std.proofs.Common.{ap, ◌∙◌}
use Rattle.vw_domain.specs.Sites.{Site as EquationSite}
use Rattle.vw_domain.specs.Abstract.{abstract_of}
use Rattle.vw_domain.specs.Addresses.{address_of}
use Rattle.vw_state.proofs.Sites.{same_site}
use Rattle.vw_state.proofs.operand.address.Goals as goal

pub returns : goal.returns
returns c = λ f is.
    c.by_parts.ensures
    ∙ ap (λ (site : EquationSite). address_of site (abstract_of c.args.state.now) c.args.mem.now) (same_site f c.args.site.now c.args.next is)
