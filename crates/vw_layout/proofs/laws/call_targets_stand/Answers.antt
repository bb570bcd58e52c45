use Rattle.vw_layout.proofs.CallLemmas.{probe_is_stub, stub_is_probe, some_target, stub_stands}
use Rattle.vw_layout.proofs.laws.call_targets_stand.Goals as goal

pub returns-clause-probe : goal.returns-clause-probe
returns-clause-probe c = λ image functions address. (probe_is_stub image functions address, stub_is_probe image functions address)

pub returns-clause-some : goal.returns-clause-some
returns-clause-some c = some_target

pub returns-clause-stub : goal.returns-clause-stub
returns-clause-stub c = stub_stands
