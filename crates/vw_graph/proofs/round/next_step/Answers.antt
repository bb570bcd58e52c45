use Rattle.std.proofs.Common.{◌≡◌, ℕ, ◌+◌, ◌-◌, List, Option, IfOk, sym, subst, arith}
use Rattle.vw_rows.specs.Numbers.{IsBytes}
use Rattle.vw_state.specs.declared.jumps.JumpTable.{JumpTable}
use Rattle.vw_state.specs.Context.{Context, context_of, code_of}
use Rattle.vw_state.specs.Laws.{HasSites}
use Rattle.vw_graph.specs.declared.walk.Walk.{Walk}
use Rattle.vw_graph.specs.declared.walk.Walk.TheVariants.{Passes}
use Rattle.vw_graph.specs.search.Course.{IsInRound, IsStep}
use Rattle.vw_graph.specs.search.Jumps.{HasSlots}
use Rattle.vw_graph.specs.Rounds.{WithinRounds}
use Rattle.vw_graph.specs.search.Solved.{StopsFirst}
use Rattle.vw_graph.specs.search.Walks.{FindsIn, KeepsSlots}
use Rattle.vw_graph.proofs.NextRound.{within_now}
use Rattle.vw_graph.proofs.StepOfRound.{stops, finds_in, fit_in, has_points}
use Rattle.vw_graph.proofs.Targets.{site_bytes}
use Rattle.vw_graph.proofs.round.next_step.Goals as goal

pub sites_are_in_range-requires : goal.sites_are_in_range-requires
sites_are_in_range-requires g c = c.requires.whole

pub walk_over-requires-clause-few : goal.walk_over-requires-clause-few
walk_over-requires-clause-few g c = c.requires.graph.few

pub walk_over-requires-clause-short : goal.walk_over-requires-clause-short
walk_over-requires-clause-short g c =
    let same : c.args.declared.now.size ≡ c.args.site.size = c.requires.graph.is_site.size in
    omega (arith, same, c.requires.graph.short)

pub walk_over-requires-clause-small : goal.walk_over-requires-clause-small
walk_over-requires-clause-small g c =
    let same : c.args.declared.now.size ≡ c.args.site.size = c.requires.graph.is_site.size in
    omega (arith, same, c.requires.short)

pub walk_over-requires-clause-size : goal.walk_over-requires-clause-size
walk_over-requires-clause-size g c =
    let f : Context = context_of c.args.loaded.now c.args.declared.now in
    has_points f c.args.site c.args.code.now c.requires.graph c.args.jumps.items c.args.table c.requires.in_round.0 c.args.steps.now c.requires.in_round.1

pub walk_over-requires-clause-fits : goal.walk_over-requires-clause-fits
walk_over-requires-clause-fits g c =
    let f : Context = context_of c.args.loaded.now c.args.declared.now in
    fit_in f c.args.site c.args.code.now c.requires.graph c.args.jumps.items c.args.table c.requires.in_round.0 c.args.steps.now c.requires.in_round.1

pub returns-in_err-at-clause-ticks : goal.returns-in_err-at-clause-ticks
returns-in_err-at-clause-ticks g c = λ start now.
    let f : Context = context_of c.args.loaded.now c.args.declared.now in
    let bytes : IsBytes (code_of f) = site_bytes f c.args.site c.args.code.now (f.size + 1) c.requires.graph in
    let sites : HasSites f = c.sites_are_in_range.ensures c.args.declared.now c.requires.listed in
    within_now c.jumps_stay.ensures.stay c.jumps_stay.ensures.few f bytes sites c.args.jumps.items c.args.table start c.args.steps.now now

pub returns-in_err-at-clause-counts : goal.returns-in_err-at-clause-counts
returns-in_err-at-clause-counts g c = omega arith

pub returns-in_err-table-in-Stops-clause-ticks : goal.returns-in_err-table-in-Stops-clause-ticks
returns-in_err-table-in-Stops-clause-ticks g c = λ start now.
    let f : Context = context_of c.args.loaded.now c.args.declared.now in
    let bytes : IsBytes (code_of f) = site_bytes f c.args.site c.args.code.now (f.size + 1) c.requires.graph in
    let sites : HasSites f = c.sites_are_in_range.ensures c.args.declared.now c.requires.listed in
    within_now c.jumps_stay.ensures.stay c.jumps_stay.ensures.few f bytes sites c.args.jumps.items c.args.table start c.args.steps.now now

pub returns-in_err-table-in-Stops-clause-counts : goal.returns-in_err-table-in-Stops-clause-counts
returns-in_err-table-in-Stops-clause-counts g c = omega arith

pub returns-in-Stops-clause-ticks : goal.returns-in-Stops-clause-ticks
returns-in-Stops-clause-ticks g c = λ start now.
    let f : Context = context_of c.args.loaded.now c.args.declared.now in
    let bytes : IsBytes (code_of f) = site_bytes f c.args.site c.args.code.now (f.size + 1) c.requires.graph in
    let sites : HasSites f = c.sites_are_in_range.ensures c.args.declared.now c.requires.listed in
    within_now c.jumps_stay.ensures.stay c.jumps_stay.ensures.few f bytes sites c.args.jumps.items c.args.table start c.args.steps.now now

pub returns-in-Stops-clause-counts : goal.returns-in-Stops-clause-counts
returns-in-Stops-clause-counts g c = omega arith

pub table_of-requires-clause-short : goal.table_of-requires-clause-short
table_of-requires-clause-short g c = c.requires.short

pub table_of-requires-clause-size : goal.table_of-requires-clause-size
table_of-requires-clause-size g c = c.requires.in_round.1.solved.least.solution.size

pub returns-in-Stops-clause-step : goal.returns-in-Stops-clause-step
returns-in-Stops-clause-step g c = λ start now.
    let f : Context = context_of c.args.loaded.now c.args.declared.now in
    let bytes : IsBytes (code_of f) = site_bytes f c.args.site c.args.code.now (f.size + 1) c.requires.graph in
    let sites : HasSites f = c.sites_are_in_range.ensures c.args.declared.now c.requires.listed in
    let first : StopsFirst f c.args.table c.in-Stops.at c.in-Stops.check = subst (λ (w : Walk). FindsIn f c.args.table (f.size + 1) w) c.in-Stops.is (finds_in f c.args.site c.args.code.now c.requires.graph c.args.table c.in_ok-at.field-0 c.in_ok-at.ensures.finds) in
    stops c.jumps_stay.ensures.stay c.jumps_stay.ensures.few f bytes sites c.args.jumps.items c.args.table start c.args.steps.now now c.args.steps.now c.in_ok-table-in-Stops.table c.in_ok-table-in-Stops.ensures c.in-Stops.at c.in-Stops.check first

pub passed_step-requires-clause-whole : goal.passed_step-requires-clause-whole
passed_step-requires-clause-whole g c = c.requires.whole

pub passed_step-requires-clause-listed : goal.passed_step-requires-clause-listed
passed_step-requires-clause-listed g c = c.requires.listed

pub passed_step-requires-clause-short : goal.passed_step-requires-clause-short
passed_step-requires-clause-short g c = c.requires.short

pub passed_step-requires-clause-graph : goal.passed_step-requires-clause-graph
passed_step-requires-clause-graph g c = c.requires.graph

pub passed_step-requires-clause-in_round : goal.passed_step-requires-clause-in_round
passed_step-requires-clause-in_round g c =
    let f : Context = context_of c.args.loaded.now c.args.declared.now in
    let now = c.requires.in_round in
    (now.0, subst (λ (s : List (Option JumpTable)). IsInRound f s c.args.table now.0 c.args.steps.now) (sym c.as_slice.ensures.value) now.1)

pub passed_step-requires-clause-slots : goal.passed_step-requires-clause-slots
passed_step-requires-clause-slots g c =
    let f : Context = context_of c.args.loaded.now c.args.declared.now in
    let kept : HasSlots (c.args.site.size + 1) c.in-Passes.further.items = subst (λ (w : Walk). KeepsSlots (c.args.site.size + 1) w) c.in-Passes.is c.in_ok-at.ensures.slots in
    subst (λ (n : ℕ). HasSlots (n + 1) c.in-Passes.further.items) (sym c.requires.graph.is_site.size) kept

pub passed_step-requires-clause-passes : goal.passed_step-requires-clause-passes
passed_step-requires-clause-passes g c =
    let f : Context = context_of c.args.loaded.now c.args.declared.now in
    let found : FindsIn f c.args.table (f.size + 1) (Passes c.in-Passes.further) = subst (λ (w : Walk). FindsIn f c.args.table (f.size + 1) w) c.in-Passes.is (finds_in f c.args.site c.args.code.now c.requires.graph c.args.table c.in_ok-at.field-0 c.in_ok-at.ensures.finds) in
    found.0

pub passed_step-requires-clause-are : goal.passed_step-requires-clause-are
passed_step-requires-clause-are g c =
    let f : Context = context_of c.args.loaded.now c.args.declared.now in
    let found : FindsIn f c.args.table (f.size + 1) (Passes c.in-Passes.further) = subst (λ (w : Walk). FindsIn f c.args.table (f.size + 1) w) c.in-Passes.is (finds_in f c.args.site c.args.code.now c.requires.graph c.args.table c.in_ok-at.field-0 c.in_ok-at.ensures.finds) in
    found.1

pub returns-clause-step : goal.returns-clause-step
returns-clause-step g c =
    let f : Context = context_of c.args.loaded.now c.args.declared.now in
    subst (λ (s : List (Option JumpTable)). IfOk c.passed_step.result (λ step. (start : ℕ) → IsInRound f s c.args.table start c.args.steps.now → IsStep f s start c.passed_step.new.steps step)) c.as_slice.ensures.value c.passed_step.ensures.step

pub returns-clause-ticks : goal.returns-clause-ticks
returns-clause-ticks g c =
    let f : Context = context_of c.args.loaded.now c.args.declared.now in
    subst (λ (s : List (Option JumpTable)). (start : ℕ) → IsInRound f s c.args.table start c.args.steps.now → WithinRounds f (c.passed_step.new.steps - start)) c.as_slice.ensures.value c.passed_step.ensures.ticks

pub returns-clause-counts : goal.returns-clause-counts
returns-clause-counts g c = c.passed_step.ensures.counts
