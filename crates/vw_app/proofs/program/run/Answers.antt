use Rattle.std.proofs.Common.{ℕ, List, refl}
use Rattle.vw_outside.specs.Shelf.{Rose}
use Rattle.vw_outside.specs.Sink.{Appended, AppendedFront}
use Rattle.vw_app.specs.Answer.{Reply, read_fault, of_file}
use Rattle.vw_app.specs.Lines.{read_fault_line}
use Rattle.vw_app.proofs.Answers.{replied, cut_short, reply_to, reply_too_long, safe_reply, exact_reply, exact_check, no_check_asked, no_test_of_file, not_six}
use Rattle.vw_app.proofs.program.run.Goals as goal

pub with_report-requires : goal.with_report-requires
with_report-requires g c = rw c.in_default.is at c.request_of.ensures.none

pub returns-in_default-clause-safe : goal.returns-in_default-clause-safe
returns-in_default-clause-safe g c command name judges asks zero = absurd ((rw c.in_default.is at c.request_of.ensures.none) command name asks)

pub returns-in-Ok-answer-clause-replied : goal.returns-in-Ok-answer-clause-replied
returns-in-Ok-answer-clause-replied g c =
    replied (Reply _ _ _) (λ (text : List ℕ). Appended (g.K.Sink.written c.args.sink.now) (g.K.Sink.written c.finish.new.sink) text) c.finish.result c.in-Ok-answer.status _
    (reply_to c.in-Some.command c.in-Some.name.now c.in-Ok.file c.in-Ok-answer.status.0 c.in-Ok-answer.text c.as_slice.result.now c.in-Some.ensures.asks c.in-Ok.ensures.whole c.as_slice.ensures c.in-Ok-answer.ensures.answered)
    c.finish.ensures.done

pub returns-in-Ok-answer-clause-write_fault : goal.returns-in-Ok-answer-clause-write_fault
returns-in-Ok-answer-clause-write_fault g c =
    cut_short (Reply _ _ _) (λ (text : List ℕ). AppendedFront (g.K.Sink.written c.args.sink.now) (g.K.Sink.written c.finish.new.sink) text) c.finish.result.0 c.in-Ok-answer.status _
    (Rose (g.K.Sink.faults c.args.sink.now) (g.K.Sink.faults c.finish.new.sink))
    (reply_to c.in-Some.command c.in-Some.name.now c.in-Ok.file c.in-Ok-answer.status.0 c.in-Ok-answer.text c.as_slice.result.now c.in-Some.ensures.asks c.in-Ok.ensures.whole c.as_slice.ensures c.in-Ok-answer.ensures.answered)
    c.finish.ensures.failed

pub returns-in-Ok-answer-clause-memory : goal.returns-in-Ok-answer-clause-memory
returns-in-Ok-answer-clause-memory g c = not_six c.finish.result c.in-Ok-answer.status c.in-Ok-answer.ensures.no_want c.finish.ensures.done

pub returns-in-Ok-answer-clause-safe : goal.returns-in-Ok-answer-clause-safe
returns-in-Ok-answer-clause-safe g c =
    safe_reply (g.F.Shelf.told c.args.shelf.now) c.finish.result c.in-Ok-answer.status c.in-Some.command c.in-Some.name.now c.in-Ok.file c.in-Some.ensures.asks c.in-Ok.ensures.whole c.finish.ensures.done c.in-Ok-answer.ensures.safe

pub returns-in-Err-Fault-clause-replied : goal.returns-in-Err-Fault-clause-replied
unfolding read_fault_line
returns-in-Err-Fault-clause-replied g c =
    replied (Reply _ _ _) (λ (text : List ℕ). Appended (g.K.Sink.written c.args.sink.now) (g.K.Sink.written c.finish-in-Err-Fault.new.sink) text) c.finish-in-Err-Fault.result (record { 0 = 4 }) _
    (read_fault c.in-Some.command c.in-Some.name.now c.in-Some.ensures.asks ((rw c.in-Err-Fault.field-0-is at c.in-Err-Fault.ensures.fault).0, rw c.in-Err-Fault.field-0-is at c.in-Err-Fault.ensures.named, (rw c.in-Err-Fault.field-0-is at c.in-Err-Fault.ensures.fault).1))
    c.finish-in-Err-Fault.ensures.done

pub returns-in-Err-Fault-clause-write_fault : goal.returns-in-Err-Fault-clause-write_fault
unfolding read_fault_line
returns-in-Err-Fault-clause-write_fault g c =
    cut_short (Reply _ _ _) (λ (text : List ℕ). AppendedFront (g.K.Sink.written c.args.sink.now) (g.K.Sink.written c.finish-in-Err-Fault.new.sink) text) c.finish-in-Err-Fault.result.0 (record { 0 = 4 }) _
    (Rose (g.K.Sink.faults c.args.sink.now) (g.K.Sink.faults c.finish-in-Err-Fault.new.sink))
    (read_fault c.in-Some.command c.in-Some.name.now c.in-Some.ensures.asks ((rw c.in-Err-Fault.field-0-is at c.in-Err-Fault.ensures.fault).0, rw c.in-Err-Fault.field-0-is at c.in-Err-Fault.ensures.named, (rw c.in-Err-Fault.field-0-is at c.in-Err-Fault.ensures.fault).1))
    c.finish-in-Err-Fault.ensures.failed

pub returns-in-Ok-malformed_text-clause-replied : goal.returns-in-Ok-malformed_text-clause-replied
returns-in-Ok-malformed_text-clause-replied g c =
    replied (Reply _ _ _) (λ (text : List ℕ). Appended (g.K.Sink.written c.args.sink.now) (g.K.Sink.written c.finish-in-Ok-malformed_text.new.sink) text) c.finish-in-Ok-malformed_text.result (record { 0 = 2 }) _
    (reply_too_long c.in-Ok-malformed_text.text c.as_slice-in-Ok-malformed_text.result.now _ c.in-Some.command c.in-Some.name.now c.in-Some.ensures.asks (rw c.in-Err-TooLong.field-0-is at c.in-Err-TooLong.ensures.longer) c.in-Ok-malformed_text.ensures c.as_slice-in-Ok-malformed_text.ensures)
    c.finish-in-Ok-malformed_text.ensures.done

pub returns-in-Ok-malformed_text-clause-write_fault : goal.returns-in-Ok-malformed_text-clause-write_fault
returns-in-Ok-malformed_text-clause-write_fault g c =
    cut_short (Reply _ _ _) (λ (text : List ℕ). AppendedFront (g.K.Sink.written c.args.sink.now) (g.K.Sink.written c.finish-in-Ok-malformed_text.new.sink) text) c.finish-in-Ok-malformed_text.result.0 (record { 0 = 2 }) _
    (Rose (g.K.Sink.faults c.args.sink.now) (g.K.Sink.faults c.finish-in-Ok-malformed_text.new.sink))
    (reply_too_long c.in-Ok-malformed_text.text c.as_slice-in-Ok-malformed_text.result.now _ c.in-Some.command c.in-Some.name.now c.in-Some.ensures.asks (rw c.in-Err-TooLong.field-0-is at c.in-Err-TooLong.ensures.longer) c.in-Ok-malformed_text.ensures c.as_slice-in-Ok-malformed_text.ensures)
    c.finish-in-Ok-malformed_text.ensures.failed

pub returns-in_default-clause-exact : goal.returns-in_default-clause-exact
returns-in_default-clause-exact g c = exact_reply _ c.with_report.ensures.replied

pub returns-in_default-clause-exact_report : goal.returns-in_default-clause-exact_report
returns-in_default-clause-exact_report g c = exact_check _ c.with_report.ensures.replied

pub returns-in-Ok-answer-clause-exact : goal.returns-in-Ok-answer-clause-exact
returns-in-Ok-answer-clause-exact g c = exact_reply _ (returns-in-Ok-answer-clause-replied g c)

pub returns-in-Err-Fault-clause-exact : goal.returns-in-Err-Fault-clause-exact
returns-in-Err-Fault-clause-exact g c = exact_reply _ (returns-in-Err-Fault-clause-replied g c)

pub returns-in-Ok-malformed_text-clause-exact : goal.returns-in-Ok-malformed_text-clause-exact
returns-in-Ok-malformed_text-clause-exact g c = exact_reply _ (returns-in-Ok-malformed_text-clause-replied g c)

pub returns-in-Err-clause-memory : goal.returns-in-Err-clause-memory
returns-in-Err-clause-memory g c six = (refl, of_file c.in-Some.command c.in-Some.name.now c.in-Some.ensures.asks)

pub returns-in-Err-malformed_text-clause-memory : goal.returns-in-Err-malformed_text-clause-memory
returns-in-Err-malformed_text-clause-memory g c six = (refl, of_file c.in-Some.command c.in-Some.name.now c.in-Some.ensures.asks)

pub returns-in-Err-Memory-clause-memory : goal.returns-in-Err-Memory-clause-memory
returns-in-Err-Memory-clause-memory g c six = (refl, of_file c.in-Some.command c.in-Some.name.now c.in-Some.ensures.asks)

pub returns-in-Ok-answer-clause-safe_report : goal.returns-in-Ok-answer-clause-safe_report
returns-in-Ok-answer-clause-safe_report g c name report asks zero = no_check_asked c.in-Some.command c.in-Some.name.now name report c.in-Some.ensures.asks asks

pub returns-in-Ok-answer-clause-exact_report : goal.returns-in-Ok-answer-clause-exact_report
returns-in-Ok-answer-clause-exact_report g c name report file bytes asks told also rules not_four not_five not_six = no_check_asked c.in-Some.command c.in-Some.name.now name report c.in-Some.ensures.asks asks

pub returns-in-Ok-answer-clause-unread : goal.returns-in-Ok-answer-clause-unread
returns-in-Ok-answer-clause-unread g c name report asks two = no_check_asked c.in-Some.command c.in-Some.name.now name report c.in-Some.ensures.asks asks

pub returns-in-Err-Fault-clause-safe_report : goal.returns-in-Err-Fault-clause-safe_report
returns-in-Err-Fault-clause-safe_report g c name report asks zero = no_check_asked c.in-Some.command c.in-Some.name.now name report c.in-Some.ensures.asks asks

pub returns-in-Err-Fault-clause-exact_report : goal.returns-in-Err-Fault-clause-exact_report
returns-in-Err-Fault-clause-exact_report g c name report file bytes asks told also rules not_four not_five not_six = no_check_asked c.in-Some.command c.in-Some.name.now name report c.in-Some.ensures.asks asks

pub returns-in-Err-Fault-clause-unread : goal.returns-in-Err-Fault-clause-unread
returns-in-Err-Fault-clause-unread g c name report asks two = no_check_asked c.in-Some.command c.in-Some.name.now name report c.in-Some.ensures.asks asks

pub returns-in-Ok-malformed_text-clause-safe_report : goal.returns-in-Ok-malformed_text-clause-safe_report
returns-in-Ok-malformed_text-clause-safe_report g c name report asks zero = no_check_asked c.in-Some.command c.in-Some.name.now name report c.in-Some.ensures.asks asks

pub returns-in-Ok-malformed_text-clause-exact_report : goal.returns-in-Ok-malformed_text-clause-exact_report
returns-in-Ok-malformed_text-clause-exact_report g c name report file bytes asks told also rules not_four not_five not_six = no_check_asked c.in-Some.command c.in-Some.name.now name report c.in-Some.ensures.asks asks

pub returns-in-Ok-malformed_text-clause-unread : goal.returns-in-Ok-malformed_text-clause-unread
returns-in-Ok-malformed_text-clause-unread g c name report asks two = no_check_asked c.in-Some.command c.in-Some.name.now name report c.in-Some.ensures.asks asks

pub returns-in-Ok-answer-clause-safe_test : goal.returns-in-Ok-answer-clause-safe_test
returns-in-Ok-answer-clause-safe_test g c functions number asks zero = no_test_of_file c.in-Some.command c.in-Some.name.now functions number c.in-Some.ensures.asks asks

pub returns-in-Err-Fault-clause-safe_test : goal.returns-in-Err-Fault-clause-safe_test
returns-in-Err-Fault-clause-safe_test g c functions number asks zero = no_test_of_file c.in-Some.command c.in-Some.name.now functions number c.in-Some.ensures.asks asks

pub returns-in-Ok-malformed_text-clause-safe_test : goal.returns-in-Ok-malformed_text-clause-safe_test
returns-in-Ok-malformed_text-clause-safe_test g c functions number asks zero = no_test_of_file c.in-Some.command c.in-Some.name.now functions number c.in-Some.ensures.asks asks
