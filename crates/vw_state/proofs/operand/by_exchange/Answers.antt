use Rattle.std.proofs.Common.{rules}
use Rattle.vw_state.proofs.operand.by_exchange.Goals as goal

pub returns-then-scale-eq1 : goal.returns-then-scale-eq1
returns-then-scale-eq1 c = λ next.
    let is = c.by_pair.ensures next in
    search rules
