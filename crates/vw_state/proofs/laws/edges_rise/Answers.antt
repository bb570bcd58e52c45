use Rattle.vw_state.proofs.EdgeRises as rises
use Rattle.vw_state.proofs.laws.edges_rise.Goals as goal

pub returns-clause-rise : goal.returns-clause-rise
returns-clause-rise c = λ f bytes sites. rises.edges_rise c.laws_of_edges.ensures f sites bytes

pub returns-clause-valid : goal.returns-clause-valid
returns-clause-valid c = λ f bytes sites. rises.edges_valid c.laws_of_edges.ensures f sites bytes
