use Rattle.vw_app.proofs.tests.judgements.verdicts_on_functions.Given as goal

abbrev pub ghosts-judged : goal.ghosts-judged
ghosts-judged g a = record { name = a.blank.name; parts = a.blank.parts }
