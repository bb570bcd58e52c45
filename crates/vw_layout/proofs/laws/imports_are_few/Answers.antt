use Rattle.vw_layout.proofs.ImportLemmas.{few_imports}
use Rattle.vw_layout.proofs.laws.imports_are_few.Goals as goal

pub returns : goal.returns
returns c = few_imports
