use Rattle.vw_layout.proofs.CodeLemmas.{code_of_module}
use Rattle.vw_layout.proofs.laws.functions_are_code.Goals as goal

pub returns : goal.returns
returns c = code_of_module
