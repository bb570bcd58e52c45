use Rattle.vw_app.proofs.Checks.{entries_ascend, report_rechecked, report_faulty, report_sandboxed}
use Rattle.vw_app.proofs.check.check_report.Goals as goal

pub check_tables-requires-clause-ascend : goal.check_tables-requires-clause-ascend
check_tables-requires-clause-ascend c = entries_ascend 0 c.in-Ok.tables.functions c.in-Ok.ensures.found.functions

pub returns-in-Ok-clause-checked : goal.returns-in-Ok-clause-checked
returns-in-Ok-clause-checked c = report_rechecked c.args.loaded.now c.args.report c.in-Ok.tables c.check_tables.result c.requires.within c.in-Ok.ensures.found c.check_tables.ensures.rechecked

pub returns-in-Ok-clause-safe : goal.returns-in-Ok-clause-safe
returns-in-Ok-clause-safe c = report_sandboxed c.args.loaded.now c.args.report c.in-Ok.tables c.check_tables.result c.requires.whole c.in-Ok.ensures.found c.check_tables.ensures.rechecked c.check_tables.ensures.safe

pub returns-in_ok-bad_report_text-in-Err-Fault-clause-checked : goal.returns-in_ok-bad_report_text-in-Err-Fault-clause-checked
returns-in_ok-bad_report_text-in-Err-Fault-clause-checked c =
    report_faulty c.args.loaded.now c.args.report c.in-Err-Fault.line c.in_ok-bad_report_text-in-Err-Fault.field-0 c.requires.within (rw c.in-Err-Fault.field-0-is at c.in-Err-Fault.ensures.refused) c.in_ok-bad_report_text-in-Err-Fault.ensures
