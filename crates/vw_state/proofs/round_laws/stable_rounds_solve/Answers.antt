use Rattle.vw_state.proofs.RoundLemmas.{stable_solves}
use Rattle.vw_state.proofs.round_laws.stable_rounds_solve.Goals as goal

pub returns : goal.returns
returns c = λ f number pairs table bytes sites. stable_solves f number pairs table
