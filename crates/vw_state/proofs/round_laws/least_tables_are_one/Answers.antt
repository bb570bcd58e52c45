use Rattle.vw_state.proofs.RoundLemmas.{one_least}
use Rattle.vw_state.proofs.round_laws.least_tables_are_one.Goals as goal

pub returns : goal.returns
returns c = λ f table other bytes sites. one_least f (c.laws_of_rounds.ensures f bytes sites) table other
