use Rattle.vw_layout.proofs.EntryLemmas.{few_tables, few_entries}
use Rattle.vw_layout.proofs.laws.tables_are_few.Goals as goal

pub returns-clause-tables : goal.returns-clause-tables
returns-clause-tables c = few_tables

pub returns-clause-entries : goal.returns-clause-entries
returns-clause-entries c = few_entries
