use Rattle.std.proofs.Common.{arith, ◌≡◌, ◌+◌}
use Rattle.vw_machine.proofs.JudgingLemmas.{is_readable, is_open_there}
use Rattle.vw_machine.proofs.judging.is_readable.Goals as goal

pub returns-in-Some : goal.returns-in-Some
returns-in-Some c =
    let m = c.args.module.now in
    let w = c.args.world.now in
    let at : c.args.address ≡ w.load + c.in-Some.place = omega arith in
    ((λ t. is_readable m w c.args.address c.in-Some.place at (rw c.is_open.ensures at t)), (λ r. rw c.is_open.ensures (is_open_there m w c.args.address c.in-Some.place at r)))
