use Rattle.std.proofs.Common.{◌≡◌, ◌<◌, ◌≤◌, List, length, ◌++◌, ◌∷◌, [], sym, ap, subst, arith}
use Rattle.vw_layout.specs.Layout.{declared_functions}
use Rattle.vw_state.specs.declared.tables.FunctionTable.{FunctionTable}
use Rattle.vw_verdict.specs.search.Findings.{AreKept}
use Rattle.vw_state.specs.Context.{context_of}
use Rattle.vw_verdict.proofs.Functions.{listed_at}
use Rattle.vw_verdict.proofs.Modules.{numbered_at, passed_more, judged_safe, judged_unsafe, none_kept, kept_more}
use Rattle.vw_verdict.proofs.Steps.{going_begins, going_on, none_taken, ticks_within, ticks_ended}
use Rattle.vw_verdict.proofs.module.judge_each.Goals as goal

pub overflow_cast-number : goal.overflow_cast-number
overflow_cast-number g c =
    let m = c.args.loaded.now in
    let within : c.loop-number.number < length m.functions = rw c.as_slice-functions.ensures at c.loop-number-test.true in
    let count : length m.functions ≡ length (declared_functions m.image.bytes) = ap length c.requires.functions in
    let few : length (declared_functions m.image.bytes) ≤ 65536 = c.functions_ascend.ensures.few m.image.bytes c.requires.rules in
    omega (arith, within, count, few)

pub returns-in_err-table-clause-ticks : goal.returns-in_err-table-clause-ticks
returns-in_err-table-clause-ticks g c =
    let m = c.args.loaded.now in
    let f = numbered_at m.functions c.loop-number.number (rw c.as_slice-functions.ensures at c.loop-number-test.true) in
    ticks_within m c.loop-number.number f.0 f.1 c.loop-number.invariant.0 c.args.steps.now c.loop-number.steps c.judge_function.new.steps c.loop-number.invariant.2 c.judge_function.ensures.counts (c.judge_function.ensures.ticks f.0 f.1)

pub returns-in_err-keep-in-Safe-clause-ticks : goal.returns-in_err-keep-in-Safe-clause-ticks
returns-in_err-keep-in-Safe-clause-ticks g c =
    let m = c.args.loaded.now in
    let f = numbered_at m.functions c.loop-number.number (rw c.as_slice-functions.ensures at c.loop-number-test.true) in
    ticks_within m c.loop-number.number f.0 f.1 c.loop-number.invariant.0 c.args.steps.now c.loop-number.steps c.judge_function.new.steps c.loop-number.invariant.2 c.judge_function.ensures.counts (c.judge_function.ensures.ticks f.0 f.1)

pub returns-in-Unsafe-clause-judged : goal.returns-in-Unsafe-clause-judged
returns-in-Unsafe-clause-judged g c =
    let m = c.args.loaded.now in
    let f = numbered_at m.functions c.loop-number.number (rw c.as_slice-functions.ensures at c.loop-number-test.true) in
    let found = rw c.in-Unsafe.is at c.in_ok-table.ensures.found in
    judged_unsafe m c.loop-number.number f.0 c.loop-number.invariant.0 f.1 c.loop-number.invariant.2.passed (λ number g is round pairs table. c.rounds_of_safe_functions_pass.ensures.passes (context_of m g) round pairs table (c.codes_are_bytes.ensures g) (c.sites_are_in_range.ensures g (listed_at m.functions number g is))) c.stops_are_checks.ensures c.in-Unsafe.place (found f.0 f.1)

pub returns-in-Unsafe-clause-ticks : goal.returns-in-Unsafe-clause-ticks
returns-in-Unsafe-clause-ticks g c =
    let m = c.args.loaded.now in
    let f = numbered_at m.functions c.loop-number.number (rw c.as_slice-functions.ensures at c.loop-number-test.true) in
    ticks_within m c.loop-number.number f.0 f.1 c.loop-number.invariant.0 c.args.steps.now c.loop-number.steps c.judge_function.new.steps c.loop-number.invariant.2 c.judge_function.ensures.counts (c.judge_function.ensures.ticks f.0 f.1)

pub loop-number-init : goal.loop-number-init
loop-number-init g c =
    ([], subst (λ (kept : List FunctionTable). AreKept c.args.keeps kept []) (sym c.new-tables.ensures) (none_kept c.args.keeps), going_begins c.args.loaded.now c.args.steps.now)

pub loop-number-preserved : goal.loop-number-preserved
loop-number-preserved g c =
    let m = c.args.loaded.now in
    let f = numbered_at m.functions c.loop-number.number (rw c.as_slice-functions.ensures at c.loop-number-test.true) in
    let found = rw c.in-Safe.is at c.in_ok-table.ensures.found in
    let all = c.loop-number.invariant.0 in
    let going = c.loop-number.invariant.2 in
    let passed = passed_more m c.loop-number.number f.0 all f.1 going.passed c.in-Safe.table (found f.0 f.1) in (
      all ++ c.in-Safe.table ∷ [],
      kept_more c.args.keeps c.loop-number.tables all c.keep.new.tables c.in-Safe.table c.loop-number.invariant.1 c.in_ok-keep-in-Safe.ensures,
      going_on m c.loop-number.number f.0 f.1 all c.args.steps.now c.loop-number.steps c.judge_function.new.steps going c.judge_function.ensures.counts (c.judge_function.ensures.ticks f.0 f.1) (all ++ c.in-Safe.table ∷ []) passed,
    )

pub returns-clause-judged : goal.returns-clause-judged
returns-clause-judged g c =
    let m = c.args.loaded.now in
    let all = c.loop-number.invariant.0 in
    (record { functions = all }, c.loop-number.invariant.1, judged_safe m c.loop-number.number all (rw c.as_slice-functions.ensures at c.loop-number-test.false) c.loop-number.invariant.2.passed)

pub returns-clause-ticks : goal.returns-clause-ticks
returns-clause-ticks g c = ticks_ended c.args.loaded.now c.loop-number.number c.loop-number.invariant.0 c.args.steps.now c.loop-number.steps c.loop-number.invariant.2

pub returns-in_err-extents-clause-ticks : goal.returns-in_err-extents-clause-ticks
returns-in_err-extents-clause-ticks g c = none_taken c.args.loaded.now c.args.steps.now

pub returns-in_err-lengths-clause-ticks : goal.returns-in_err-lengths-clause-ticks
returns-in_err-lengths-clause-ticks g c = none_taken c.args.loaded.now c.args.steps.now
