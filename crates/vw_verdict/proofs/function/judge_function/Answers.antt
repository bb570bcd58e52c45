use Rattle.std.proofs.Common.{refl, sym, subst}
use Rattle.vw_state.specs.Context.{context_of}
use Rattle.vw_verdict.specs.declared.function.Finding.{Finding}
use Rattle.vw_verdict.specs.Places.{stops}
use Rattle.vw_verdict.specs.search.Findings.{Found}
use Rattle.vw_verdict.proofs.Functions.{same_function, site_is}
use Rattle.vw_verdict.proofs.Steps.{no_steps}
use Rattle.vw_verdict.proofs.function.judge_function.Goals as goal

pub judge_table-requires-clause-stable : goal.judge_table-requires-clause-stable
judge_table-requires-clause-stable g c = λ f is.
    let known = rw c.in-Stable.is at c.in_ok-table.ensures.rounds in
    let r = known f is in
    record { entry = r.entry_is; number = r.number; pairs = r.pairs; round = r.round; stable = r.ends }

pub returns-in-Stopped-clause-found : goal.returns-in-Stopped-clause-found
returns-in-Stopped-clause-found g c = λ f is.
    let known = rw c.in-Stopped.is at c.in_ok-table.ensures.rounds in
    let r = known f is in
    subst (λ (o : Finding). Found (context_of c.args.loaded.now f) o) (sym c.unsafe_at.ensures) (r.entry_is, stops r.number r.pairs c.in-Stopped.table.states r.round r.ends)

pub returns-in_err-bounds-clause-ticks : goal.returns-in_err-bounds-clause-ticks
returns-in_err-bounds-clause-ticks g c = λ f is. no_steps c.args.loaded.now f c.args.steps.now

pub rounds_at-requires-clause-site : goal.rounds_at-requires-clause-site
rounds_at-requires-clause-site g c = λ f is.
    let m = c.args.loaded.now in
    let read = c.index-as_slice-number.result in
    let same = same_function m.functions c.as_slice.result.now c.args.number read f c.as_slice.ensures c.index-as_slice-number.is is in
    site_is m read f _ c.code_of-code.result.now c.args.lengths.now same refl c.requires.tables refl refl c.code_of-code.ensures.code c.requires.lengths c.in_ok-bounds.ensures

pub judge_table-requires-clause-site : goal.judge_table-requires-clause-site
judge_table-requires-clause-site g c = λ f is.
    let m = c.args.loaded.now in
    let read = c.index-as_slice-number.result in
    let same = same_function m.functions c.as_slice.result.now c.args.number read f c.as_slice.ensures c.index-as_slice-number.is is in
    site_is m read f _ c.code_of-code.result.now c.args.lengths.now same refl c.requires.tables refl refl c.code_of-code.ensures.code c.requires.lengths c.in_ok-bounds.ensures
