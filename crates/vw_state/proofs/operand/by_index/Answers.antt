use mir.Val.{SFits}
use Rattle.std.proofs.Common.{rules, w32}
use Rattle.std.proofs.lemmas.Int.{to_z-of_z}
use Rattle.vw_state.proofs.operand.by_index.Goals as goal

pub returns : goal.returns
returns c = λ next.
    let fits : SFits w32 c.args.disp = search rules in
    let first = c.by_pair-first.ensures next in
    let second = c.by_exchange-second.ensures next in
    let base = c.register-base.ensures.value in
    let index = c.register-index.ensures.value in
    let one = rw (to_z-of_z w32 c.args.disp fits, base, index) at first in
    let two = rw (to_z-of_z w32 c.args.disp fits, base, index) at second in
    let known = c.known_or.ensures in
    rw (one, two) at known
