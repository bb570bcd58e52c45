use Rattle.std.proofs.Common.{subst}
use Rattle.vw_domain.specs.declared.parts.Parts.{Parts}
use Rattle.vw_domain.specs.State.{IsState}
use Rattle.vw_domain.proofs.state.State.is_state.Goals as goal

pub returns : goal.returns
returns c = subst (λ (s : Parts). IsState s) c.self.view_is c.self.invariant
