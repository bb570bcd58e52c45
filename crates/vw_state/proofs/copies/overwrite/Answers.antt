use Rattle.std.proofs.Common.{None, ap, ◌∙◌}
use Rattle.vw_values.specs.declared.value.Value.TheVariants.{Any}
use Rattle.vw_domain.specs.Abstract.{abstract_of}
use Rattle.vw_domain.specs.Addresses.{Address}
use Rattle.vw_domain.specs.Memory.{store_at}
use Rattle.vw_state.proofs.copies.overwrite.Goals as goal

pub returns-clause-form : goal.returns-clause-form
returns-clause-form c =
    c.in_ok-store_at.ensures.form Any ∙ ap (λ (a : Address). store_at (abstract_of c.args.state.now) a c.args.size 0 None Any) c.address_at-at.ensures.is
