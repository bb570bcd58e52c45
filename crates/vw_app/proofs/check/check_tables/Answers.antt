use Rattle.std.proofs.Common.{◌∙◌, subst}
use Rattle.vw_rows.specs.Numbers.{IsBytes}
use Rattle.vw_app.proofs.Checks.{tables_accepted, tables_refused, accepted_sandboxed}
use Rattle.vw_app.proofs.check.check_tables.Goals as goal

pub returns-in_ok-text-in-None-clause-rechecked : goal.returns-in_ok-text-in-None-clause-rechecked
returns-in_ok-text-in-None-clause-rechecked c =
    tables_accepted c.args.loaded.now c.args.tables.now c.as_slice.result.now c.in_ok-text-in-None.text (rw c.in-None.is at c.in_ok-recheck.ensures.safe) c.as_slice.ensures c.in_ok-text-in-None.ensures

pub returns-in_ok-text-in-None-clause-safe : goal.returns-in_ok-text-in-None-clause-safe
returns-in_ok-text-in-None-clause-safe c zero =
    let bytes = subst IsBytes (c.as_bytes.ensures.same ∙ c.bytes.ensures.lent) c.as_bytes.ensures.bytes in
    accepted_sandboxed c.args.loaded.now c.args.tables.now c.safe_tables_are_sandboxed.ensures c.requires.whole bytes (rw c.in-None.is at c.in_ok-recheck.ensures.safe)

pub returns-in_ok-place_text-in-Some-clause-rechecked : goal.returns-in_ok-place_text-in-Some-clause-rechecked
returns-in_ok-place_text-in-Some-clause-rechecked c =
    tables_refused c.args.loaded.now c.args.tables.now c.in-Some.place c.in_ok-place_text-in-Some.field-0 (rw c.in-Some.is at c.in_ok-recheck.ensures.safe) (rw c.in-Some.is at (c.in_ok-recheck.ensures.lowest c.requires.ascend)) c.in_ok-place_text-in-Some.ensures.line
