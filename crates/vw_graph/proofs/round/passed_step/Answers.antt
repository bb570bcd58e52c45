use Rattle.std.proofs.Common.{◌≡◌, ℕ, ◌+◌, List, [], refl, subst, arith}
use Rattle.vw_rows.specs.Numbers.{IsBytes}
use Rattle.vw_state.specs.Context.{Context, context_of, code_of}
use Rattle.vw_state.specs.Laws.{HasSites}
use Rattle.vw_graph.specs.declared.round.Step.{Step}
use Rattle.vw_graph.specs.search.Course.{IsInRound, IsStep}
use Rattle.vw_graph.specs.search.Jumps.{AreNew}
use Rattle.vw_graph.proofs.Finds.{if_ok_map}
use Rattle.vw_graph.proofs.NextRound.{within_now}
use Rattle.vw_graph.proofs.StepOfRound.{is_stable, new_in, slots_in, some_waits, none_waits}
use Rattle.vw_graph.proofs.Targets.{site_bytes}
use Rattle.vw_graph.proofs.round.passed_step.Goals as goal

pub sites_are_in_range-requires : goal.sites_are_in_range-requires
sites_are_in_range-requires g c = c.requires.whole

pub new_points-requires-clause-short : goal.new_points-requires-clause-short
new_points-requires-clause-short g c =
    let same : c.args.declared.now.size ≡ c.args.site.size = c.requires.graph.is_site.size in
    omega (arith, same, c.requires.short)

pub new_points-requires-clause-slots : goal.new_points-requires-clause-slots
new_points-requires-clause-slots g c =
    let f : Context = context_of c.args.loaded.now c.args.declared.now in
    slots_in f c.args.site c.args.code.now c.requires.graph c.args.further.items c.as_slice.result.now c.as_slice.ensures.value c.requires.slots

pub returns-in_err-waiting-clause-ticks : goal.returns-in_err-waiting-clause-ticks
returns-in_err-waiting-clause-ticks g c = λ start now.
    let f : Context = context_of c.args.loaded.now c.args.declared.now in
    let bytes : IsBytes (code_of f) = site_bytes f c.args.site c.args.code.now (f.size + 1) c.requires.graph in
    let sites : HasSites f = c.sites_are_in_range.ensures c.args.declared.now c.requires.listed in
    within_now c.jumps_stay.ensures.stay c.jumps_stay.ensures.few f bytes sites c.args.jumps.now c.args.table start c.args.steps.now now

pub returns-in_err-waiting-clause-counts : goal.returns-in_err-waiting-clause-counts
returns-in_err-waiting-clause-counts g c = omega arith

pub returns-in_err-table-clause-ticks : goal.returns-in_err-table-clause-ticks
returns-in_err-table-clause-ticks g c = λ start now.
    let f : Context = context_of c.args.loaded.now c.args.declared.now in
    let bytes : IsBytes (code_of f) = site_bytes f c.args.site c.args.code.now (f.size + 1) c.requires.graph in
    let sites : HasSites f = c.sites_are_in_range.ensures c.args.declared.now c.requires.listed in
    within_now c.jumps_stay.ensures.stay c.jumps_stay.ensures.few f bytes sites c.args.jumps.now c.args.table start c.args.steps.now now

pub returns-in_err-table-clause-counts : goal.returns-in_err-table-clause-counts
returns-in_err-table-clause-counts g c = omega arith

pub returns-then-is_empty-clause-ticks : goal.returns-then-is_empty-clause-ticks
returns-then-is_empty-clause-ticks g c = λ start now.
    let f : Context = context_of c.args.loaded.now c.args.declared.now in
    let bytes : IsBytes (code_of f) = site_bytes f c.args.site c.args.code.now (f.size + 1) c.requires.graph in
    let sites : HasSites f = c.sites_are_in_range.ensures c.args.declared.now c.requires.listed in
    within_now c.jumps_stay.ensures.stay c.jumps_stay.ensures.few f bytes sites c.args.jumps.now c.args.table start c.args.steps.now now

pub returns-then-is_empty-clause-counts : goal.returns-then-is_empty-clause-counts
returns-then-is_empty-clause-counts g c = omega arith

pub table_of-requires-clause-short : goal.table_of-requires-clause-short
table_of-requires-clause-short g c = c.requires.short

pub table_of-requires-clause-size : goal.table_of-requires-clause-size
table_of-requires-clause-size g c = c.requires.in_round.1.solved.least.solution.size

pub returns-then-is_empty-clause-step : goal.returns-then-is_empty-clause-step
returns-then-is_empty-clause-step g c = λ start now.
    let f : Context = context_of c.args.loaded.now c.args.declared.now in
    let bytes : IsBytes (code_of f) = site_bytes f c.args.site c.args.code.now (f.size + 1) c.requires.graph in
    let sites : HasSites f = c.sites_are_in_range.ensures c.args.declared.now c.requires.listed in
    let are_new : AreNew f c.args.jumps.now c.args.further.items (f.size + 1) c.in_ok-waiting.waiting.keys = new_in f c.args.site c.args.code.now c.requires.graph c.args.jumps.now c.args.further.items c.as_slice.result.now c.in_ok-waiting.waiting.keys c.as_slice.ensures.value c.in_ok-waiting.ensures in
    let none : c.in_ok-waiting.waiting.keys ≡ [] = none_waits c.in_ok-waiting.waiting.keys _ c.if-is_empty.ensures refl in
    is_stable c.jumps_stay.ensures.stay c.jumps_stay.ensures.few f bytes sites c.args.jumps.now c.args.table start c.args.steps.now now c.args.steps.now c.args.further.items c.requires.passes c.requires.are
    (subst (λ (w : List ℕ). AreNew f c.args.jumps.now c.args.further.items (f.size + 1) w) none are_new) c.in_ok-table.table c.in_ok-table.ensures

pub another_step-requires-clause-whole : goal.another_step-requires-clause-whole
another_step-requires-clause-whole g c = c.requires.whole

pub another_step-requires-clause-listed : goal.another_step-requires-clause-listed
another_step-requires-clause-listed g c = c.requires.listed

pub another_step-requires-clause-short : goal.another_step-requires-clause-short
another_step-requires-clause-short g c = c.requires.short

pub another_step-requires-clause-graph : goal.another_step-requires-clause-graph
another_step-requires-clause-graph g c = c.requires.graph

pub another_step-requires-clause-leads : goal.another_step-requires-clause-leads
another_step-requires-clause-leads g c =
    let f : Context = context_of c.args.loaded.now c.args.declared.now in
    let some = some_waits c.in_ok-waiting.waiting.keys _ c.if-is_empty.ensures refl in
    let are_new : AreNew f c.args.jumps.now c.args.further.items (f.size + 1) c.in_ok-waiting.waiting.keys = new_in f c.args.site c.args.code.now c.requires.graph c.args.jumps.now c.args.further.items c.as_slice.result.now c.in_ok-waiting.waiting.keys c.as_slice.ensures.value c.in_ok-waiting.ensures in
    let now = c.requires.in_round in
    (c.args.jumps.now, (now.0, record { in_round = now.1; passes = c.requires.passes; are = c.requires.are; are_new = are_new; first = some.0; waits = some.1 }))

pub returns-clause-step : goal.returns-clause-step
returns-clause-step g c =
    let f : Context = context_of c.args.loaded.now c.args.declared.now in
    let some = some_waits c.in_ok-waiting.waiting.keys _ c.if-is_empty.ensures refl in
    let are_new : AreNew f c.args.jumps.now c.args.further.items (f.size + 1) c.in_ok-waiting.waiting.keys = new_in f c.args.site c.args.code.now c.requires.graph c.args.jumps.now c.args.further.items c.as_slice.result.now c.in_ok-waiting.waiting.keys c.as_slice.ensures.value c.in_ok-waiting.ensures in
    if_ok_map _ (λ (step : Step). (start : ℕ) → IsInRound f c.args.jumps.now c.args.table start c.args.steps.now → IsStep f c.args.jumps.now start c.another_step.new.steps step) c.another_step.result (λ step each start now. each c.args.jumps.now start (record { in_round = now; passes = c.requires.passes; are = c.requires.are; are_new = are_new; first = some.0; waits = some.1 })) c.another_step.ensures.step

pub returns-clause-ticks : goal.returns-clause-ticks
returns-clause-ticks g c = λ start now.
    let f : Context = context_of c.args.loaded.now c.args.declared.now in
    let some = some_waits c.in_ok-waiting.waiting.keys _ c.if-is_empty.ensures refl in
    let are_new : AreNew f c.args.jumps.now c.args.further.items (f.size + 1) c.in_ok-waiting.waiting.keys = new_in f c.args.site c.args.code.now c.requires.graph c.args.jumps.now c.args.further.items c.as_slice.result.now c.in_ok-waiting.waiting.keys c.as_slice.ensures.value c.in_ok-waiting.ensures in
    c.another_step.ensures.ticks c.args.jumps.now start (record { in_round = now; passes = c.requires.passes; are = c.requires.are; are_new = are_new; first = some.0; waits = some.1 })

pub returns-clause-counts : goal.returns-clause-counts
returns-clause-counts g c = c.another_step.ensures.counts
