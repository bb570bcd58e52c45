use Rattle.vw_layout.proofs.ImportLemmas.{one_number}
use Rattle.vw_layout.proofs.laws.import_names_differ.Goals as goal

pub returns : goal.returns
returns c = one_number
