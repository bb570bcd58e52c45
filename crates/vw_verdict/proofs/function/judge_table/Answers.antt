use Rattle.std.proofs.Common.{sym, subst, List}
use Rattle.vw_state.specs.declared.tables.PointState.{PointState}
use Rattle.vw_state.specs.Context.{context_of}
use Rattle.vw_state.specs.Tables.{RisesWithin}
use Rattle.vw_verdict.specs.declared.function.Finding.{Finding}
use Rattle.vw_verdict.specs.search.Findings.{Found}
use Rattle.vw_verdict.proofs.Functions.{StableIsSafe, least_with, listed_at, found_failing, found_passing}
use Rattle.vw_verdict.proofs.Modules.{numbered_at}
use Rattle.vw_verdict.proofs.function.judge_table.Goals as goal

pub first_failing-requires-clause-rises : goal.first_failing-requires-clause-rises
first_failing-requires-clause-rises c =
    let m = c.args.loaded.now in
    let f = numbered_at m.functions c.args.number c.requires.declared in
    let stable = c.requires.stable f.0 f.1 in
    let least = least_with stable.round in
    let size = (c.requires.site f.0 f.1).size in
    rw size at (subst (λ (states : List PointState). RisesWithin 0 f.0.size states) (sym c.as_slice.ensures) least.solution.rises)

pub returns-in-Some : goal.returns-in-Some
returns-in-Some c = λ f is.
    let m = c.args.loaded.now in
    let first = c.in_ok-at.ensures f (listed_at m.functions c.args.number f is) (c.requires.site f is) in
    subst (λ (o : Finding). Found (context_of m f) o) (sym c.unsafe_at.ensures)
    (found_failing (context_of m f) c.args.table c.as_slice.result.now c.as_slice.ensures (c.requires.stable f is) c.in-Some.at c.in-Some.check (rw c.in-Some.is at first))

pub returns-in-None : goal.returns-in-None
returns-in-None c = λ f is.
    let m = c.args.loaded.now in
    let first = c.in_ok-at.ensures f (listed_at m.functions c.args.number f is) (c.requires.site f is) in
    let listed = listed_at m.functions c.args.number f is in
    let law : StableIsSafe (context_of m f) = λ number pairs table. c.stable_rounds_are_safe.ensures (context_of m f) number pairs table (c.codes_are_bytes.ensures f) (c.sites_are_in_range.ensures f listed) in
    found_passing (context_of m f) c.args.table c.as_slice.result.now c.as_slice.ensures (c.requires.stable f is) law (rw c.in-None.is at first)
