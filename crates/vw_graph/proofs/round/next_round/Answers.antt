use Rattle.std.proofs.Common.{ℕ, ◌+◌, List, refl}
use Rattle.vw_rows.specs.Numbers.{IsBytes}
use Rattle.vw_domain.specs.State.{entry_state}
use Rattle.vw_state.specs.Context.{Context, context_of, code_of}
use Rattle.vw_state.specs.Laws.{HasSites}
use Rattle.vw_graph.specs.search.Course.{IsSolvedWith}
use Rattle.vw_graph.specs.search.Jumps.{pairs_of}
use Rattle.vw_graph.proofs.Finds.{if_ok_map}
use Rattle.vw_graph.proofs.Solving.{Equations, rising, grown, ticks, seed, has_seed}
use Rattle.vw_graph.proofs.Targets.{site_bytes}
use Rattle.vw_graph.proofs.round.next_round.Goals as goal

pub resume-requires-clause-rise : goal.resume-requires-clause-rise
resume-requires-clause-rise g c =
    let f : Context = context_of c.args.loaded.now c.args.declared.now in
    let bytes : IsBytes (code_of f) = site_bytes f c.args.site c.args.code.now (f.size + 1) c.requires.graph in
    let sites : HasSites f = c.sites_are_in_range.ensures c.args.declared.now c.requires.listed in
    rising f (pairs_of f c.args.jumps.now) c.of_function-graph.result c.of_function-graph.ensures (c.edges_rise.ensures.rise f bytes sites) (c.edges_rise.ensures.valid f bytes sites)

pub resume-requires-clause-seed : goal.resume-requires-clause-seed
resume-requires-clause-seed g c =
    let f : Context = context_of c.args.loaded.now c.args.declared.now in
    has_seed f (pairs_of f c.args.jumps.now) c.of_function-graph.result c.of_function-graph.ensures c.args.table c.args.waiting.keys c.requires.seed

pub returns-clause-solved : goal.returns-clause-solved
returns-clause-solved g c =
    let f : Context = context_of c.args.loaded.now c.args.declared.now in
    let pairs : List (ℕ × ℕ) = pairs_of f c.args.jumps.now in
    let q : Equations = c.of_function-graph.result in
    let begun = seed f pairs q c.of_function-graph.ensures c.args.table c.args.waiting.keys c.requires.seed in
    if_ok_map _ (IsSolvedWith f pairs) c.resume.result (λ t from. grown f pairs q c.of_function-graph.ensures entry_state refl t (from 0 entry_state begun)) c.resume.ensures.grown

pub returns-clause-ticks : goal.returns-clause-ticks
returns-clause-ticks g c =
    let f : Context = context_of c.args.loaded.now c.args.declared.now in
    let bytes : IsBytes (code_of f) = site_bytes f c.args.site c.args.code.now (f.size + 1) c.requires.graph in
    let sites : HasSites f = c.sites_are_in_range.ensures c.args.declared.now c.requires.listed in
    let pairs : List (ℕ × ℕ) = pairs_of f c.args.jumps.now in
    let q : Equations = c.of_function-graph.result in
    let begun = seed f pairs q c.of_function-graph.ensures c.args.table c.args.waiting.keys c.requires.seed in
    ticks f pairs q c.of_function-graph.ensures entry_state refl c.state_ranks_are_small.ensures.small c.entry_is_state.ensures (c.edges_rise.ensures.valid f bytes sites) (c.edges_grow_slowly.ensures f bytes sites) _ _ (c.resume.ensures.bound 0 entry_state begun)
