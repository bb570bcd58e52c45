use Rattle.std.proofs.Common.{rules}
use Rattle.vw_state.proofs.operand.by_parts.Goals as goal

pub returns-in-Some-index : goal.returns-in-Some-index
returns-in-Some-index c =
    let is = c.by_index.ensures c.args.next in
    search rules
