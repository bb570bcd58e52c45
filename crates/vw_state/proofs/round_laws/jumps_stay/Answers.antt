use Rattle.vw_state.proofs.RoundLemmas.{pairs_stay, few_rounds}
use Rattle.vw_state.proofs.round_laws.jumps_stay.Goals as goal

pub returns-clause-stay : goal.returns-clause-stay
returns-clause-stay c = λ f number pairs table at to bytes sites round passes. pairs_stay f (c.laws_of_rounds.ensures f bytes sites) number pairs table round passes at to

pub returns-clause-few : goal.returns-clause-few
returns-clause-few c = λ f number pairs table bytes sites. few_rounds f (c.laws_of_rounds.ensures f bytes sites) number pairs table
