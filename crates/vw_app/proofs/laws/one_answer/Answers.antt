use Rattle.vw_app.proofs.Answers.{answers_once}
use Rattle.vw_app.proofs.laws.one_answer.Goals as goal

pub returns : goal.returns
returns c command file status other text other_text bytes one two =
    answers_once c.one_spelling.ensures c.tables_have_one_text.ensures c.least_tables_are_one.ensures c.functions_have_sites.ensures command file bytes one two
