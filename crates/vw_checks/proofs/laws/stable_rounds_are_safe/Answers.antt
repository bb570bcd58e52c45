use Rattle.vw_checks.proofs.laws.stable_rounds_are_safe.Goals as goal

pub returns : goal.returns
returns c = λ f number pairs table bytes sites round stable none. record { solution = c.stable_rounds_solve.ensures f number pairs table bytes sites round stable; passes = none }
