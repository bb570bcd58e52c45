use Rattle.vw_layout.proofs.ApartLemmas.{entries_ascend, functions_apart, few_functions}
use Rattle.vw_layout.proofs.laws.functions_ascend.Goals as goal

pub returns-clause-ascend : goal.returns-clause-ascend
returns-clause-ascend c = entries_ascend

pub returns-clause-apart : goal.returns-clause-apart
returns-clause-apart c = functions_apart

pub returns-clause-few : goal.returns-clause-few
returns-clause-few c = few_functions
