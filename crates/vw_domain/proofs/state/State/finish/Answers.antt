use Rattle.vw_domain.proofs.state.State.finish.Goals as goal

pub returns-clause-fits : goal.returns-clause-fits
returns-clause-fits c = λ b fits. c.write.ensures.fits b fits tt
