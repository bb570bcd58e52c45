use Rattle.vw_state.proofs.RoundEdges.{edges_among}
use Rattle.vw_state.proofs.round_laws.more_jumps_more_edges.Goals as goal

pub returns : goal.returns
returns c = λ f pairs more at state edge within. edges_among f pairs more at state within edge
