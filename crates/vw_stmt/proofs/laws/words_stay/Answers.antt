use Rattle.vw_stmt.proofs.WordLemmas.{run_words}
use Rattle.vw_stmt.proofs.laws.words_stay.Goals as goal

pub returns : goal.returns
returns c = λ loads stores next stmts m i e e' h g d. run_words loads stores next m stmts i e e' h g d
