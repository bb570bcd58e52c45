use Rattle.std.proofs.Common.{◌∙◌, subst}
use Rattle.vw_rows.specs.Numbers.{IsBytes}
use Rattle.vw_app.specs.Selftest.{IsTestedLine}
use Rattle.vw_app.proofs.Selftests.{safe_tested}
use Rattle.vw_app.proofs.Told.{unsafe_judged, safe_sandboxed}
use Rattle.vw_app.proofs.selftest.test_module.Goals as goal

pub returns-in_ok-selftest_text-in-Safe-clause-judged : goal.returns-in_ok-selftest_text-in-Safe-clause-judged
returns-in_ok-selftest_text-in-Safe-clause-judged c =
    let found = rw c.in-Safe.is at c.in_ok-tables.ensures in
    safe_tested c.args.loaded.now c.in-Safe.tables c.as_slice-functions.result.now c.in_ok-states-in-Safe.states c.in_ok-selftest_text-in-Safe.field-0 found c.as_slice-functions.ensures c.in_ok-states-in-Safe.ensures c.in_ok-selftest_text-in-Safe.ensures

pub returns-in_ok-selftest_text-in-Safe-clause-safe : goal.returns-in_ok-selftest_text-in-Safe-clause-safe
returns-in_ok-selftest_text-in-Safe-clause-safe c zero =
    let found = rw c.in-Safe.is at c.in_ok-tables.ensures in
    let bytes = subst IsBytes (c.as_bytes.ensures.same ∙ c.bytes.ensures.lent) c.as_bytes.ensures.bytes in
    safe_sandboxed c.args.loaded.now c.safe_tables_are_sandboxed.ensures c.requires bytes c.in-Safe.tables found

pub returns-in_ok-place_text-in-Unsafe-clause-judged : goal.returns-in_ok-place_text-in-Unsafe-clause-judged
returns-in_ok-place_text-in-Unsafe-clause-judged c =
    unsafe_judged c.args.loaded.now (IsTestedLine c.args.loaded.now) c.in-Unsafe.place c.in_ok-place_text-in-Unsafe.field-0 (rw c.in-Unsafe.is at c.in_ok-tables.ensures) c.in_ok-place_text-in-Unsafe.ensures.place
