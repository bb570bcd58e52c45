use Rattle.vw_sandbox.specs.Runs.{begins}
use Rattle.vw_sandbox.proofs.Choices.{runs_to, runs_on}
use Rattle.vw_sandbox.proofs.laws.reaches_by_choices.Goals as goal

pub returns : goal.returns
returns c m w first s = (runs_to m w first s, (λ found. runs_on m w found.0 first first s begins found.1))
