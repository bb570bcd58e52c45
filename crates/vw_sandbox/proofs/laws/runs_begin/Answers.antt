use Rattle.vw_machine.specs.Module.{module_of}
use Rattle.vw_sandbox.proofs.Witnesses.{begun, limited}
use Rattle.vw_sandbox.proofs.laws.runs_begin.Goals as goal

pub returns : goal.returns
returns c file is = begun (module_of file) (limited c.segments_are_bounded.ensures c.imports_are_few.ensures file is)
