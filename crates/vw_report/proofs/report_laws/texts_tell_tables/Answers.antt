use Rattle.vw_report.proofs.OneReading.{one_tables}
use Rattle.vw_report.proofs.report_laws.texts_tell_tables.Goals as goal

pub returns : goal.returns
returns c = one_tables
