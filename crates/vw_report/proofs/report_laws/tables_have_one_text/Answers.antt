use Rattle.vw_report.proofs.OneText.{one_text}
use Rattle.vw_report.proofs.report_laws.tables_have_one_text.Goals as goal

pub returns : goal.returns
returns c = one_text
