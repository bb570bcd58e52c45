use Rattle.std.proofs.Common.{◌≡◌, ℕ, None, subst}
use Rattle.vw_domain.specs.Abstract.{abstract_of}
use Rattle.vw_domain.specs.Changes.{write}
use Rattle.vw_state.proofs.registers.put.Goals as goal

pub returns-clause-form : goal.returns-clause-form
returns-clause-form c =
    subst (λ (d : ℕ). abstract_of c.write.new.self ≡ write (abstract_of c.args.state.now) d None c.args.known.value c.args.known.offset)
    c.number_of.ensures.number c.write.ensures.form
