use Rattle.std.proofs.Common.{refl}
use Rattle.vw_report.proofs.ReportLoop.{no_first_line, functions_stopped, no_end, whole_report, behind_end}
use Rattle.vw_report.proofs.read_tables.tables_at.Goals as goal

pub returns-in-None-clause-stopped : goal.returns-in-None-clause-stopped
returns-in-None-clause-stopped c = (c.args.bytes.now, refl, no_first_line c.args.bytes.now c.in-None.ensures)

pub returns-in-Err-clause-stopped : goal.returns-in-Err-clause-stopped
returns-in-Err-clause-stopped c = functions_stopped c.args.bytes.now c.in-Some.rest.now c.in-Err.stop c.in-Some.ensures c.in-Err.ensures.stopped

pub returns-in-None-behind-clause-stopped : goal.returns-in-None-behind-clause-stopped
returns-in-None-behind-clause-stopped c = (c.in-Ok.rest.now, refl, no_end c.args.bytes.now c.in-Some.rest.now c.in-Ok.rest.now c.in-Ok.functions c.in-Some.ensures c.in-Ok.ensures.done c.in-None-behind.ensures)

pub returns-then-tail-eq0-clause-done : goal.returns-then-tail-eq0-clause-done
returns-then-tail-eq0-clause-done c = whole_report c.args.bytes.now c.in-Some.rest.now c.in-Ok.rest.now c.in-Some-behind.tail.now c.in-Ok.functions c.in-Some.ensures c.in-Ok.ensures.done c.in-Some-behind.ensures c.if-tail-eq0.true

pub returns-else-tail-eq0-clause-stopped : goal.returns-else-tail-eq0-clause-stopped
returns-else-tail-eq0-clause-stopped c =
    (c.in-Some-behind.tail.now, refl, behind_end c.args.bytes.now c.in-Some.rest.now c.in-Ok.rest.now c.in-Some-behind.tail.now c.in-Ok.functions c.in-Some.ensures c.in-Ok.ensures.done c.in-Some-behind.ensures c.if-tail-eq0.false)
