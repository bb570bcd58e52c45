use Rattle.vw_app.proofs.Checks.{told_report, report_fault, report_too_long, told_sandboxed}
use Rattle.vw_app.proofs.check.check_module.Goals as goal

pub returns-in-Ok-clause-answered : goal.returns-in-Ok-clause-answered
returns-in-Ok-clause-answered g c =
    told_report c.args.loaded.now (g.F.Shelf.told c.args.shelf.now c.args.report.now) _ c.in-Ok.bytes c.check_report.result c.in-Ok.ensures.whole c.check_report.ensures.checked

pub returns-in-Ok-clause-safe : goal.returns-in-Ok-clause-safe
returns-in-Ok-clause-safe g c =
    told_sandboxed (g.F.Shelf.told c.args.shelf.now c.args.report.now) c.args.loaded.now.image.bytes c.in-Ok.bytes c.check_report.result c.in-Ok.ensures.whole c.check_report.ensures.safe

pub returns-in_ok-read_fault_text-in-Err-Fault-clause-answered : goal.returns-in_ok-read_fault_text-in-Err-Fault-clause-answered
returns-in_ok-read_fault_text-in-Err-Fault-clause-answered g c =
    report_fault c.args.loaded.now (g.F.Shelf.told c.args.shelf.now c.args.report.now) _ c.in_ok-read_fault_text-in-Err-Fault.field-0
    ((rw c.in-Err-Fault.field-0-is at c.in-Err-Fault.ensures.fault).0, rw c.in-Err-Fault.field-0-is at c.in-Err-Fault.ensures.named, (rw c.in-Err-Fault.field-0-is at c.in-Err-Fault.ensures.fault).1)
    c.in_ok-read_fault_text-in-Err-Fault.ensures

pub returns-in_ok-bad_report_text-in-Err-TooLong-clause-answered : goal.returns-in_ok-bad_report_text-in-Err-TooLong-clause-answered
returns-in_ok-bad_report_text-in-Err-TooLong-clause-answered g c =
    report_too_long c.args.loaded.now (g.F.Shelf.told c.args.shelf.now c.args.report.now) _ c.in_ok-bad_report_text-in-Err-TooLong.field-0 (rw c.in-Err-TooLong.field-0-is at c.in-Err-TooLong.ensures.longer) c.in_ok-bad_report_text-in-Err-TooLong.ensures
