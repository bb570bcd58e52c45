use Rattle.vw_domain.proofs.FrameEdges
use Rattle.vw_domain.proofs.equation_laws.edges_are_decided.Goals as goal

pub returns : goal.returns
returns c = FrameEdges.edges_are_decided
