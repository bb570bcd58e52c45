use Rattle.vw_sandbox.proofs.Witnesses.{writes_in}
use Rattle.vw_sandbox.proofs.laws.writes_stay_in_bounds.Goals as goal

pub returns : goal.returns
returns c = writes_in
