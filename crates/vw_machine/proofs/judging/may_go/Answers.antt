use Rattle.vw_machine.proofs.JudgingLemmas.{is_tabled, tabled_there}
use Rattle.vw_machine.proofs.judging.may_go.Goals as goal

pub returns-in-Indirect : goal.returns-in-Indirect
returns-in-Indirect c =
    let m = c.args.module.now in
    let w = c.args.world.now in
    rw (c.in-Indirect.is, c.is_tabled.ensures) ((λ t. is_tabled m w c.args.to t), (λ is. tabled_there m w c.args.to is))
