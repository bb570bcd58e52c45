use Rattle.std.proofs.Common.{ℕ, List, map, refl}
use Rattle.std.specs.Prelude.{string_bytes}
use Rattle.vw_outside.specs.Shelf.{Rose}
use Rattle.vw_outside.specs.Sink.{Appended, AppendedFront}
use Rattle.vw_app.specs.Answer.{WithoutFile, of_test}
use Rattle.vw_app.proofs.Answers.{replied, cut_short, not_six, module_tested, safe_test}
use Rattle.vw_app.proofs.program.with_test.Goals as goal

pub without_file-requires-clause-test : goal.without_file-requires-clause-test
without_file-requires-clause-test g c = rw c.in_default.is at c.numbers_behind.ensures.none

pub returns-in_default-clause-safe_test : goal.returns-in_default-clause-safe_test
returns-in_default-clause-safe_test g c functions number asks zero = absurd ((rw c.in_default.is at c.numbers_behind.ensures.none) functions number asks)

pub returns-in-Ok-clause-replied : goal.returns-in-Ok-clause-replied
returns-in-Ok-clause-replied g c =
    replied (WithoutFile (map string_bytes c.args.words.now)) (λ (text : List ℕ). Appended (g.K.Sink.written c.args.sink.now) (g.K.Sink.written c.finish.new.sink) text) c.finish.result c.in-Ok.status _
    (module_tested c.in-Some.functions c.in-Some.number c.in-Ok.status.0 c.in-Ok.text c.as_slice.result.now c.in-Some.ensures.asks c.as_slice.ensures c.in-Ok.ensures.tested)
    c.finish.ensures.done

pub returns-in-Ok-clause-safe_test : goal.returns-in-Ok-clause-safe_test
returns-in-Ok-clause-safe_test g c =
    safe_test c.finish.result c.in-Ok.status c.in-Some.functions c.in-Some.number c.in-Some.ensures.asks c.finish.ensures.done c.in-Ok.ensures.safe

pub returns-in-Ok-clause-write_fault : goal.returns-in-Ok-clause-write_fault
returns-in-Ok-clause-write_fault g c =
    cut_short (WithoutFile (map string_bytes c.args.words.now)) (λ (text : List ℕ). AppendedFront (g.K.Sink.written c.args.sink.now) (g.K.Sink.written c.finish.new.sink) text) c.finish.result.0 c.in-Ok.status _
    (Rose (g.K.Sink.faults c.args.sink.now) (g.K.Sink.faults c.finish.new.sink))
    (module_tested c.in-Some.functions c.in-Some.number c.in-Ok.status.0 c.in-Ok.text c.as_slice.result.now c.in-Some.ensures.asks c.as_slice.ensures c.in-Ok.ensures.tested)
    c.finish.ensures.failed

pub returns-in-Ok-clause-memory : goal.returns-in-Ok-clause-memory
returns-in-Ok-clause-memory g c = not_six c.finish.result c.in-Ok.status c.in-Ok.ensures.no_want c.finish.ensures.done

pub returns-in-Err-clause-memory : goal.returns-in-Err-clause-memory
returns-in-Err-clause-memory g c six = (refl, of_test c.in-Some.functions c.in-Some.number c.in-Some.ensures.asks)
