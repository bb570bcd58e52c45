use Rattle.std.proofs.Common.{◌∙◌, subst}
use Rattle.vw_rows.specs.Numbers.{IsBytes}
use Rattle.vw_app.specs.Answer.{IsLeastReport}
use Rattle.vw_app.proofs.Told.{safe_reported, unsafe_judged, safe_sandboxed}
use Rattle.vw_app.proofs.verdict.report.Goals as goal

pub returns-in_ok-write_report-in-Safe-clause-judged : goal.returns-in_ok-write_report-in-Safe-clause-judged
returns-in_ok-write_report-in-Safe-clause-judged c =
    let found = rw c.in-Safe.is at c.in_ok-tables.ensures in
    safe_reported c.args.loaded.now c.in-Safe.tables c.in_ok-write_report-in-Safe.field-0 found c.in_ok-write_report-in-Safe.ensures

pub returns-in_ok-write_report-in-Safe-clause-safe : goal.returns-in_ok-write_report-in-Safe-clause-safe
returns-in_ok-write_report-in-Safe-clause-safe c zero =
    let found = rw c.in-Safe.is at c.in_ok-tables.ensures in
    let bytes = subst IsBytes (c.as_bytes.ensures.same ∙ c.bytes.ensures.lent) c.as_bytes.ensures.bytes in
    safe_sandboxed c.args.loaded.now c.safe_tables_are_sandboxed.ensures c.requires bytes c.in-Safe.tables found

pub returns-in_ok-place_text-in-Unsafe-clause-judged : goal.returns-in_ok-place_text-in-Unsafe-clause-judged
returns-in_ok-place_text-in-Unsafe-clause-judged c =
    unsafe_judged c.args.loaded.now (IsLeastReport c.args.loaded.now) c.in-Unsafe.place c.in_ok-place_text-in-Unsafe.field-0 (rw c.in-Unsafe.is at c.in_ok-tables.ensures) c.in_ok-place_text-in-Unsafe.ensures.place
