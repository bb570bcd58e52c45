use Rattle.vw_state.proofs.loads.half_value.Goals as goal

pub returns-in-Image-clause-is : goal.returns-in-Image-clause-is
returns-in-Image-clause-is c = rw c.in-Image.is (λ next. c.half_word.ensures.is next)
