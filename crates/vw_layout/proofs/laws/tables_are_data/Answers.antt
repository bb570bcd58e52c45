use Rattle.vw_layout.proofs.EntryLemmas.{table_data}
use Rattle.vw_layout.proofs.laws.tables_are_data.Goals as goal

pub returns : goal.returns
returns c = table_data
