use Rattle.std.proofs.Common.{ℕ, List, map, refl}
use Rattle.std.specs.Prelude.{string_bytes}
use Rattle.vw_outside.specs.Shelf.{Rose}
use Rattle.vw_outside.specs.Sink.{Appended, AppendedFront}
use Rattle.vw_app.specs.Answer.{WithoutFile, usage, of_numbers}
use Rattle.vw_app.specs.Lines.{usage_line}
use Rattle.vw_app.proofs.Answers.{replied, cut_short, module_made, no_form}
use Rattle.vw_app.proofs.program.without_file.Goals as goal

pub returns-in-Ok-clause-replied : goal.returns-in-Ok-clause-replied
returns-in-Ok-clause-replied g c =
    replied (WithoutFile (map string_bytes c.args.words.now)) (λ (text : List ℕ). Appended (g.K.Sink.written c.args.sink.now) (g.K.Sink.written c.finish.new.sink) text) c.finish.result (record { 0 = 0 }) _
    (module_made c.in-Some.functions c.in-Some.number c.in-Ok.file c.as_slice.result.now c.in-Some.ensures.asks c.in-Ok.ensures.bytes c.as_slice.ensures)
    c.finish.ensures.done

pub returns-in-Ok-clause-write_fault : goal.returns-in-Ok-clause-write_fault
returns-in-Ok-clause-write_fault g c =
    cut_short (WithoutFile (map string_bytes c.args.words.now)) (λ (text : List ℕ). AppendedFront (g.K.Sink.written c.args.sink.now) (g.K.Sink.written c.finish.new.sink) text) c.finish.result.0 (record { 0 = 0 }) _
    (Rose (g.K.Sink.faults c.args.sink.now) (g.K.Sink.faults c.finish.new.sink))
    (module_made c.in-Some.functions c.in-Some.number c.in-Ok.file c.as_slice.result.now c.in-Some.ensures.asks c.in-Ok.ensures.bytes c.as_slice.ensures)
    c.finish.ensures.failed

pub returns-in-Err-clause-memory : goal.returns-in-Err-clause-memory
returns-in-Err-clause-memory g c six = (refl, of_numbers c.in-Some.functions c.in-Some.number c.in-Some.ensures.asks)

pub returns-in-None-clause-replied : goal.returns-in-None-clause-replied
unfolding usage_line
returns-in-None-clause-replied g c =
    replied (WithoutFile (map string_bytes c.args.words.now)) (λ (text : List ℕ). Appended (g.K.Sink.written c.args.sink.now) (g.K.Sink.written c.finish-in-None.new.sink) text) c.finish-in-None.result (record { 0 = 3 }) _
    (usage (no_form c.requires.file c.requires.report c.requires.test c.in-None.ensures.none))
    c.finish-in-None.ensures.done

pub returns-in-None-clause-write_fault : goal.returns-in-None-clause-write_fault
unfolding usage_line
returns-in-None-clause-write_fault g c =
    cut_short (WithoutFile (map string_bytes c.args.words.now)) (λ (text : List ℕ). AppendedFront (g.K.Sink.written c.args.sink.now) (g.K.Sink.written c.finish-in-None.new.sink) text) c.finish-in-None.result.0 (record { 0 = 3 }) _
    (Rose (g.K.Sink.faults c.args.sink.now) (g.K.Sink.faults c.finish-in-None.new.sink))
    (usage (no_form c.requires.file c.requires.report c.requires.test c.in-None.ensures.none))
    c.finish-in-None.ensures.failed
