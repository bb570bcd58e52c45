use Rattle.vw_app.proofs.tests.report_rows.tables_of.Given as goal

abbrev pub ghosts-tables_from : goal.ghosts-tables_from
ghosts-tables_from a = record { name = a.blank.name; parts = a.blank.parts }
