use Rattle.vw_machine.specs.State.{MachineState}
use Rattle.vw_sandbox.specs.Runs.{of_runs}
use Rattle.vw_sandbox.proofs.laws.kept_claims_are_met.Goals as goal

pub returns : goal.returns
returns g c m w first met keeps = of_runs m w first (λ (s : MachineState). g.C.Claim.is_met s) met keeps
