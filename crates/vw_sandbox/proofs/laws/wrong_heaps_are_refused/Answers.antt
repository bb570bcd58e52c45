use Rattle.std.proofs.Common.{inl, inr, ⊎_elim}
use Rattle.vw_sandbox.proofs.Witnesses.{passed_heap}
use Rattle.vw_sandbox.proofs.laws.wrong_heaps_are_refused.Goals as goal

pub returns : goal.returns
returns c m w s i len choice to stands calls among other no_probe passes = ⊎_elim other no_probe (passed_heap m w s i len choice to stands calls among passes)
