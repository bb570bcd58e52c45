use Rattle.vw_app.specs.Answer.{ReadFailed}
use Rattle.vw_app.proofs.Checks.{told_file, file_fault, file_too_long, both_sandboxed, failed_before, then_unread}
use Rattle.vw_app.proofs.check.check.Goals as goal

pub returns-in-Ok-clause-answered : goal.returns-in-Ok-clause-answered
returns-in-Ok-clause-answered g c =
    told_file (g.F.Shelf.told c.args.shelf.now) (ReadFailed (g.F.Shelf.faults c.args.shelf.now) (g.F.Shelf.faults c.check_file.new.shelf) (g.F.Shelf.opened c.check_file.new.shelf) (g.F.Shelf.failed c.check_file.new.shelf)) c.args.name.now c.args.report.now c.in-Ok.file
    (g.F.Shelf.told c.read_all.new.shelf c.args.report.now) _ c.check_file.result c.in-Ok.ensures.whole (c.read_all.ensures.files c.args.report.now)
    (failed_before (g.F.Shelf.faults c.args.shelf.now) (g.F.Shelf.faults c.read_all.new.shelf) (g.F.Shelf.faults c.check_file.new.shelf) (g.F.Shelf.opened c.check_file.new.shelf) (g.F.Shelf.failed c.check_file.new.shelf) c.args.report.now c.read_all.ensures.count)
    c.check_file.ensures.answered

pub returns-in-Ok-clause-safe : goal.returns-in-Ok-clause-safe
returns-in-Ok-clause-safe g c =
    both_sandboxed (g.F.Shelf.told c.args.shelf.now) c.args.name.now c.args.report.now c.in-Ok.file (g.F.Shelf.told c.read_all.new.shelf c.args.report.now) c.check_file.result c.in-Ok.ensures.whole (c.read_all.ensures.files c.args.report.now) c.check_file.ensures.safe

pub returns-in-Ok-clause-unread : goal.returns-in-Ok-clause-unread
returns-in-Ok-clause-unread g c = then_unread (g.F.Shelf.opened c.check_file.new.shelf) (g.F.Shelf.opened c.read_all.new.shelf) c.args.name.now c.check_file.result c.in-Ok.ensures.named c.check_file.ensures.unread

pub returns-in_ok-read_fault_text-in-Err-Fault-clause-answered : goal.returns-in_ok-read_fault_text-in-Err-Fault-clause-answered
returns-in_ok-read_fault_text-in-Err-Fault-clause-answered g c =
    file_fault (g.F.Shelf.told c.args.shelf.now) (ReadFailed (g.F.Shelf.faults c.args.shelf.now) (g.F.Shelf.faults c.read_all.new.shelf) (g.F.Shelf.opened c.read_all.new.shelf) (g.F.Shelf.failed c.read_all.new.shelf)) c.args.name.now c.args.report.now c.in_ok-read_fault_text-in-Err-Fault.field-0
    ((rw c.in-Err-Fault.field-0-is at c.in-Err-Fault.ensures.fault).0, rw c.in-Err-Fault.field-0-is at c.in-Err-Fault.ensures.named, (rw c.in-Err-Fault.field-0-is at c.in-Err-Fault.ensures.fault).1)
    c.in_ok-read_fault_text-in-Err-Fault.ensures

pub returns-in_ok-text-in-Err-TooLong-clause-answered : goal.returns-in_ok-text-in-Err-TooLong-clause-answered
returns-in_ok-text-in-Err-TooLong-clause-answered g c =
    file_too_long (g.F.Shelf.told c.args.shelf.now) (ReadFailed (g.F.Shelf.faults c.args.shelf.now) (g.F.Shelf.faults c.read_all.new.shelf) (g.F.Shelf.opened c.read_all.new.shelf) (g.F.Shelf.failed c.read_all.new.shelf)) c.args.name.now c.args.report.now c.in_ok-text-in-Err-TooLong.text
    (rw c.in-Err-TooLong.field-0-is at c.in-Err-TooLong.ensures.longer) c.in_ok-text-in-Err-TooLong.ensures
