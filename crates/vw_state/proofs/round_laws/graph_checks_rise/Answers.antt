use Rattle.vw_state.proofs.RoundChecks.{greater_fails}
use Rattle.vw_state.proofs.round_laws.graph_checks_rise.Goals as goal

pub returns : goal.returns
returns c = λ f at check low high bytes sites valid_low valid_high below. greater_fails f c.laws_of_edges.ensures sites at low high valid_low valid_high below check
