use Rattle.std.proofs.Common.{◌+◌, List, [], Option}
use Rattle.vw_rows.specs.Numbers.{IsBytes}
use Rattle.vw_solver.specs.Solution.{IsLeast, HoldsReachedPoints}
use Rattle.vw_solver.specs.Standing.{IsTable}
use Rattle.vw_domain.specs.declared.parts.Parts.{Parts}
use Rattle.vw_domain.specs.State.{IsValidState, state_below}
use Rattle.vw_state.specs.Context.{Context, context_of, code_of}
use Rattle.vw_state.specs.Laws.{HasSites}
use Rattle.vw_graph.specs.search.Course.{IsInRound}
use Rattle.vw_graph.proofs.Finds.{if_ok_three}
use Rattle.vw_graph.proofs.NextRound.{first_in_round}
use Rattle.vw_graph.proofs.Solving.{Equations, edges_of, rising, grown, ticks}
use Rattle.vw_graph.proofs.Targets.{site_bytes}
use Rattle.vw_graph.proofs.round.first_round.Goals as goal

pub solve-requires-clause-rise : goal.solve-requires-clause-rise
solve-requires-clause-rise g c =
    let f : Context = context_of c.args.loaded.now c.args.declared.now in
    let bytes : IsBytes (code_of f) = site_bytes f c.args.site c.args.code.now (f.size + 1) c.requires.graph in
    let sites : HasSites f = c.sites_are_in_range.ensures c.args.declared.now c.requires.listed in
    rising f [] c.of_function-graph.result c.of_function-graph.ensures (c.edges_rise.ensures.rise f bytes sites) (c.edges_rise.ensures.valid f bytes sites)

pub returns-clause-solved : goal.returns-clause-solved
returns-clause-solved g c =
    let f : Context = context_of c.args.loaded.now c.args.declared.now in
    let bytes : IsBytes (code_of f) = site_bytes f c.args.site c.args.code.now (f.size + 1) c.requires.graph in
    let sites : HasSites f = c.sites_are_in_range.ensures c.args.declared.now c.requires.listed in
    let q : Equations = c.of_function-graph.result in
    let s : Parts = c.in_ok-start.start in
    let counted = ticks f [] q c.of_function-graph.ensures s c.in_ok-start.ensures c.state_ranks_are_small.ensures.small c.entry_is_state.ensures (c.edges_rise.ensures.valid f bytes sites) (c.edges_grow_slowly.ensures f bytes sites) _ _ c.solve.ensures.bound in
    if_ok_three (λ (t : List (Option Parts)). IsLeast state_below (IsValidState q.0.bounds) (edges_of q) (q.0.size + 1) 0 s t) (λ (t : List (Option Parts)). HoldsReachedPoints (edges_of q) 0 t) (λ (t : List (Option Parts)). IsTable state_below (IsValidState q.0.bounds) (edges_of q) (q.0.size + 1) 0 s t []) (λ (t : List (Option Parts)). IsInRound f [] t c.args.steps.now c.solve.new.steps) c.solve.result
    (λ t least reached stands.
    first_in_round c.edges_are_post.ensures.are c.edges_are_post.ensures.only f bytes c.entry_is_state.ensures (c.edges_rise.ensures.rise f bytes sites) (c.edges_rise.ensures.valid f bytes sites) t c.args.steps.now c.solve.new.steps
    (grown f [] q c.of_function-graph.ensures s c.in_ok-start.ensures t (record { least = least; reached = reached; stands = stands })) counted)
    c.solve.ensures.least c.solve.ensures.reached c.solve.ensures.stands

pub returns-clause-ticks : goal.returns-clause-ticks
returns-clause-ticks g c =
    let f : Context = context_of c.args.loaded.now c.args.declared.now in
    let bytes : IsBytes (code_of f) = site_bytes f c.args.site c.args.code.now (f.size + 1) c.requires.graph in
    let sites : HasSites f = c.sites_are_in_range.ensures c.args.declared.now c.requires.listed in
    ticks f [] c.of_function-graph.result c.of_function-graph.ensures c.in_ok-start.start c.in_ok-start.ensures c.state_ranks_are_small.ensures.small c.entry_is_state.ensures (c.edges_rise.ensures.valid f bytes sites) (c.edges_grow_slowly.ensures f bytes sites) _ _ c.solve.ensures.bound
