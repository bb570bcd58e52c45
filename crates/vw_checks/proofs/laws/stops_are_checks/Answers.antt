use Rattle.vw_checks.proofs.Rising.{graph_fails}
use Rattle.vw_checks.proofs.laws.stops_are_checks.Goals as goal

pub returns : goal.returns
returns c = graph_fails
