use Rattle.std.proofs.Common.{◌+◌, List, Option, sym, subst}
use Rattle.vw_rows.specs.Numbers.{IsBytes}
use Rattle.vw_state.specs.declared.jumps.JumpTable.{JumpTable}
use Rattle.vw_state.specs.Context.{Context, context_of, code_of}
use Rattle.vw_state.specs.Laws.{HasSites}
use Rattle.vw_graph.specs.search.Course.{IsSeedWith, IsSolvedWith}
use Rattle.vw_graph.specs.search.Jumps.{pairs_of}
use Rattle.vw_graph.proofs.StepOfRound.{seeds, keeps_within, goes_on}
use Rattle.vw_graph.proofs.Targets.{site_bytes}
use Rattle.vw_graph.proofs.round.another_step.Goals as goal

pub sites_are_in_range-requires : goal.sites_are_in_range-requires
sites_are_in_range-requires g c = c.requires.whole

pub next_round-requires-clause-whole : goal.next_round-requires-clause-whole
next_round-requires-clause-whole g c = c.requires.whole

pub next_round-requires-clause-listed : goal.next_round-requires-clause-listed
next_round-requires-clause-listed g c = c.requires.listed

pub next_round-requires-clause-short : goal.next_round-requires-clause-short
next_round-requires-clause-short g c = c.requires.short

pub next_round-requires-clause-graph : goal.next_round-requires-clause-graph
next_round-requires-clause-graph g c = c.requires.graph

pub returns-in_err-risen-clause-counts : goal.returns-in_err-risen-clause-counts
returns-in_err-risen-clause-counts g c = c.next_round.ensures.counts

pub returns-clause-counts : goal.returns-clause-counts
returns-clause-counts g c = c.next_round.ensures.counts

pub next_round-requires-clause-seed : goal.next_round-requires-clause-seed
next_round-requires-clause-seed g c =
    let f : Context = context_of c.args.loaded.now c.args.declared.now in
    let bytes : IsBytes (code_of f) = site_bytes f c.args.site c.args.code.now (f.size + 1) c.requires.graph in
    let sites : HasSites f = c.sites_are_in_range.ensures c.args.declared.now c.requires.listed in
    let on = c.requires.leads in
    subst (λ (s : List (Option JumpTable)). IsSeedWith f (pairs_of f s) c.args.table c.args.waiting.keys) (sym c.as_slice-slots.ensures.value)
    (seeds c.jumps_stay.ensures.stay c.jumps_stay.ensures.few f bytes sites on.0 c.args.table on.1.0 c.args.steps.now c.args.further.items c.args.waiting.keys on.1.1 c.entry_is_state.ensures)

pub returns-clause-step : goal.returns-clause-step
returns-clause-step g c = λ jumps start on.
    let f : Context = context_of c.args.loaded.now c.args.declared.now in
    let bytes : IsBytes (code_of f) = site_bytes f c.args.site c.args.code.now (f.size + 1) c.requires.graph in
    let sites : HasSites f = c.sites_are_in_range.ensures c.args.declared.now c.requires.listed in
    goes_on c.jumps_stay.ensures.stay c.jumps_stay.ensures.few f bytes sites jumps c.args.table start c.args.steps.now c.args.further.items c.args.waiting.keys on
    c.edges_are_post.ensures.are c.edges_are_post.ensures.only c.entry_is_state.ensures (c.edges_rise.ensures.rise f bytes sites) (c.edges_rise.ensures.valid f bytes sites) c.in_ok-risen.risen
    (subst (λ (s : List (Option JumpTable)). IsSolvedWith f (pairs_of f s) c.in_ok-risen.risen) c.as_slice-slots.ensures.value c.in_ok-risen.ensures.solved) c.next_round.new.steps c.next_round.ensures.ticks

pub returns-clause-ticks : goal.returns-clause-ticks
returns-clause-ticks g c = λ jumps start on.
    let f : Context = context_of c.args.loaded.now c.args.declared.now in
    let bytes : IsBytes (code_of f) = site_bytes f c.args.site c.args.code.now (f.size + 1) c.requires.graph in
    let sites : HasSites f = c.sites_are_in_range.ensures c.args.declared.now c.requires.listed in
    keeps_within c.jumps_stay.ensures.stay c.jumps_stay.ensures.few f bytes sites jumps c.args.table start c.args.steps.now c.args.further.items c.args.waiting.keys on c.next_round.new.steps c.next_round.ensures.ticks

pub returns-in_err-risen-clause-ticks : goal.returns-in_err-risen-clause-ticks
returns-in_err-risen-clause-ticks g c = λ jumps start on.
    let f : Context = context_of c.args.loaded.now c.args.declared.now in
    let bytes : IsBytes (code_of f) = site_bytes f c.args.site c.args.code.now (f.size + 1) c.requires.graph in
    let sites : HasSites f = c.sites_are_in_range.ensures c.args.declared.now c.requires.listed in
    keeps_within c.jumps_stay.ensures.stay c.jumps_stay.ensures.few f bytes sites jumps c.args.table start c.args.steps.now c.args.further.items c.args.waiting.keys on c.next_round.new.steps c.next_round.ensures.ticks
