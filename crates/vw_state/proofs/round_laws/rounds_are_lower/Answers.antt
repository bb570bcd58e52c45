use Rattle.vw_state.proofs.RoundLemmas.{round_lower}
use Rattle.vw_state.proofs.round_laws.rounds_are_lower.Goals as goal

pub returns : goal.returns
returns c = λ f number pairs table other bytes sites. round_lower f (c.laws_of_rounds.ensures f bytes sites) number pairs table other
