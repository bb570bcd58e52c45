use Rattle.std.proofs.Common.{ℕ, List, refl}
use Rattle.vw_outside.specs.Shelf.{Rose}
use Rattle.vw_outside.specs.Sink.{Appended, AppendedFront}
use Rattle.vw_app.specs.Answer.{Reply, without_file, of_files}
use Rattle.vw_app.proofs.Answers.{replied, cut_short, not_six, lent_check, safe_check, unread_check, no_test_of_files}
use Rattle.vw_app.proofs.program.with_report.Goals as goal

pub with_test-requires-clause-report : goal.with_test-requires-clause-report
with_test-requires-clause-report g c = rw c.in_default.is at c.report_of.ensures.none

pub returns-in_default-clause-replied : goal.returns-in_default-clause-replied
returns-in_default-clause-replied g c not_five not_six =
    let r = c.with_test.ensures.replied not_five not_six in
    (r.0, r.1, without_file c.with_test.result.0 r.0 r.2)

pub returns-in_default-clause-safe_report : goal.returns-in_default-clause-safe_report
returns-in_default-clause-safe_report g c name report asks zero = absurd ((rw c.in_default.is at c.report_of.ensures.none) name report asks)

pub returns-in_default-clause-unread : goal.returns-in_default-clause-unread
returns-in_default-clause-unread g c name report asks two = absurd ((rw c.in_default.is at c.report_of.ensures.none) name report asks)

pub returns-in_default-clause-write_fault : goal.returns-in_default-clause-write_fault
returns-in_default-clause-write_fault g c five =
    let f = c.with_test.ensures.write_fault five in
    (f.0, f.1, f.2, f.3, without_file f.1 f.2 f.4)

pub returns-in-Ok-clause-replied : goal.returns-in-Ok-clause-replied
returns-in-Ok-clause-replied g c =
    replied (Reply _ _ _) (λ (text : List ℕ). Appended (g.K.Sink.written c.args.sink.now) (g.K.Sink.written c.finish.new.sink) text) c.finish.result c.in-Ok.status _
    (lent_check c.in-Some.name.now c.in-Some.report.now c.in-Ok.status.0 c.in-Ok.text c.as_slice.result.now c.in-Some.ensures.asks c.as_slice.ensures c.in-Ok.ensures.answered)
    c.finish.ensures.done

pub returns-in-Ok-clause-write_fault : goal.returns-in-Ok-clause-write_fault
returns-in-Ok-clause-write_fault g c =
    cut_short (Reply _ _ _) (λ (text : List ℕ). AppendedFront (g.K.Sink.written c.args.sink.now) (g.K.Sink.written c.finish.new.sink) text) c.finish.result.0 c.in-Ok.status _
    (Rose (g.K.Sink.faults c.args.sink.now) (g.K.Sink.faults c.finish.new.sink))
    (lent_check c.in-Some.name.now c.in-Some.report.now c.in-Ok.status.0 c.in-Ok.text c.as_slice.result.now c.in-Some.ensures.asks c.as_slice.ensures c.in-Ok.ensures.answered)
    c.finish.ensures.failed

pub returns-in-Ok-clause-safe_report : goal.returns-in-Ok-clause-safe_report
returns-in-Ok-clause-safe_report g c =
    safe_check (g.F.Shelf.told c.args.shelf.now) c.finish.result c.in-Ok.status c.in-Some.name.now c.in-Some.report.now c.in-Some.ensures.asks c.finish.ensures.done c.in-Ok.ensures.safe

pub returns-in-Ok-clause-unread : goal.returns-in-Ok-clause-unread
returns-in-Ok-clause-unread g c =
    unread_check (g.F.Shelf.opened c.check.new.shelf) c.finish.result c.in-Ok.status c.in-Some.name.now c.in-Some.report.now c.in-Some.ensures.asks c.finish.ensures.done c.in-Ok.ensures.unread

pub returns-in-Ok-clause-memory : goal.returns-in-Ok-clause-memory
returns-in-Ok-clause-memory g c = not_six c.finish.result c.in-Ok.status c.in-Ok.ensures.no_want c.finish.ensures.done

pub returns-in-Err-clause-memory : goal.returns-in-Err-clause-memory
returns-in-Err-clause-memory g c six = (refl, of_files c.in-Some.name.now c.in-Some.report.now c.in-Some.ensures.asks)

pub returns-in-Ok-clause-safe_test : goal.returns-in-Ok-clause-safe_test
returns-in-Ok-clause-safe_test g c functions number asks zero = no_test_of_files c.in-Some.name.now c.in-Some.report.now functions number c.in-Some.ensures.asks asks
