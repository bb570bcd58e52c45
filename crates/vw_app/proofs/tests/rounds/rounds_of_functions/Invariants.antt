use Rattle.vw_app.proofs.tests.rounds.rounds_of_functions.Given as goal

abbrev pub ghosts-first_rounds : goal.ghosts-first_rounds
ghosts-first_rounds g a = record { name = a.blank.name; parts = a.blank.parts }
