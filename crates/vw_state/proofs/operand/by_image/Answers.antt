use Rattle.std.proofs.Common.{rules}
use Rattle.vw_state.proofs.operand.by_image.Goals as goal

pub returns-in-Index16 : goal.returns-in-Index16
returns-in-Index16 c = λ next.
    let is = c.by_symbol.ensures next in
    search rules
