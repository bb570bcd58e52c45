use Rattle.vw_state.proofs.EdgeGrows.{edges_grow}
use Rattle.vw_state.proofs.laws.edges_grow_slowly.Goals as goal

pub returns : goal.returns
returns c = λ f bytes sites. edges_grow f c.laws_of_edges.ensures sites bytes
