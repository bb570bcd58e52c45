use Rattle.vw_state.proofs.Begins.{begins_alone}
use Rattle.vw_state.proofs.RoundChecks.{greater_jumps}
use Rattle.vw_state.proofs.round_laws.laws_of_rounds.Goals as goal

pub returns : goal.returns
returns c =
    let law = c.read_is_spelling.ensures in
    λ f bytes sites. record {
      alone = λ at i j len other. begins_alone law.none law.found law.size law.only f at bytes i j len other;
      jumps = λ at to low high i len src valid_low valid_high below. greater_jumps f c.laws_of_edges.ensures sites at low high valid_low valid_high below to i len src;
    }
