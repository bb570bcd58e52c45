use Rattle.std.proofs.Common.{◌∙◌, subst}
use Rattle.vw_rows.specs.Numbers.{IsBytes}
use Rattle.vw_app.specs.Answer.{IsSafeLine}
use Rattle.vw_app.proofs.Told.{safe_judged, unsafe_judged, safe_sandboxed}
use Rattle.vw_app.proofs.verdict.verify.Goals as goal

pub returns-in_ok-text-in-None-clause-judged : goal.returns-in_ok-text-in-None-clause-judged
returns-in_ok-text-in-None-clause-judged c =
    let found = rw c.in-None.is at c.in_ok-place_of.ensures in
    safe_judged c.args.loaded.now found.0 c.as_slice.result.now c.in_ok-text-in-None.text found.1 c.as_slice.ensures c.in_ok-text-in-None.ensures

pub returns-in_ok-text-in-None-clause-safe : goal.returns-in_ok-text-in-None-clause-safe
returns-in_ok-text-in-None-clause-safe c zero =
    let found = rw c.in-None.is at c.in_ok-place_of.ensures in
    let bytes = subst IsBytes (c.as_bytes.ensures.same ∙ c.bytes.ensures.lent) c.as_bytes.ensures.bytes in
    safe_sandboxed c.args.loaded.now c.safe_tables_are_sandboxed.ensures c.requires bytes found.0 found.1

pub returns-in_ok-place_text-in-Some-clause-judged : goal.returns-in_ok-place_text-in-Some-clause-judged
returns-in_ok-place_text-in-Some-clause-judged c =
    unsafe_judged c.args.loaded.now (IsSafeLine c.args.loaded.now) c.in-Some.place c.in_ok-place_text-in-Some.field-0 (rw c.in-Some.is at c.in_ok-place_of.ensures) c.in_ok-place_text-in-Some.ensures.place
