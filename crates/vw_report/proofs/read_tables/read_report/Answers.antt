use Rattle.std.proofs.Common.{◌∙◌, ap, ◌+◌, take}
use Rattle.std.specs.Prelude.{◌==◌, count_by}
use Rattle.vw_report.proofs.NewlineLaws.{fault_line}
use Rattle.vw_report.proofs.read_tables.read_report.Goals as goal

pub returns-in-Err-At-clause-refused : goal.returns-in-Err-At-clause-refused
returns-in-Err-At-clause-refused c =
    let s = c.in-Err-At.ensures.stopped in
    let h = rw c.in-Err-At.field-0-is at s in
    fault_line c.args.bytes.now h.0 c.in-Err-At.left (c.newlines-before.result + 1) h.1 h.2 (ap (λ x. x + 1) c.newlines-before.ensures ∙ ap (λ n. count_by (λ b. b == 10) (take n c.args.bytes.now) + 1) c.saturating_sub-front.ensures)
