use Rattle.std.proofs.Common.{◌≡◌, ◌+◌, ◌-◌, ℕ, [], ◌∷◌, List, Option, Some, None, set, replicate, ap, sym, subst, ◌∙◌, arith}
use Rattle.std.specs.Ordering.{nat_cmp}
use Rattle.std.specs.BTreeSet.{insert_key}
use Rattle.vw_solver.specs.Rising.{AreRising}
use Rattle.vw_solver.proofs.Search.{Laws, Progress, first_progress, visits_step, finish, finish_reached, finish_ticks, within_bound, failed_bound, all_wait}
use Rattle.vw_solver.proofs.solution.solve.Given.{Over}
use Rattle.vw_solver.proofs.solution.solve.Goals as goal

laws_of : (g : Over) (e : g.row.E.Denot) → AreRising g.E.State.Lattice.below (g.E.State.Lattice.valid (g.E.Equations.bounds e)) (g.E.Equations.edges e) (g.E.Equations.points e) → Laws g.E.State.Lattice.below (g.E.State.Lattice.valid (g.E.Equations.bounds e)) (g.E.State.Lattice.rank (g.E.Equations.bounds e)) (g.E.Equations.edges e) (g.E.Equations.points e)
laws_of g e rise = record {
  reflexive = g.met.E.State.Lattice.reflexive (g.E.Equations.bounds e);
  transitive = g.met.E.State.Lattice.transitive (g.E.Equations.bounds e);
  falls = g.met.E.State.Lattice.rank_falls (g.E.Equations.bounds e);
  strict = g.met.E.State.Lattice.rank_strict (g.E.Equations.bounds e);
  valid_edges = rise.valid_edges;
  monotone = rise.monotone;
}

pub rounds-init : goal.rounds-init
rounds-init g c =
    let table = c.put.new.self in
    let put : List (Option g.row.E-State.Denot) → List (Option g.row.E-State.Denot) = λ t. set t c.args.start (Some c.args.first) in
    let empty : ℕ → List (Option g.row.E-State.Denot) = λ n. set (replicate n None) c.args.start (Some c.args.first) in
    let table_is : table ≡ set (replicate (g.E.Equations.points c.args.equations.now) None) c.args.start (Some c.args.first) = c.in_ok-put.ensures ∙ ap put c.in_ok-states.ensures ∙ ap empty c.points.ensures in
    let insert : List ℕ → List ℕ = λ ks. insert_key nat_cmp ks c.args.start in
    let keys_are : c.insert.new.self.keys ≡ c.args.start ∷ [] = c.in_ok-insert.ensures.keys ∙ ap insert c.new-waiting.ensures.empty in
    let P : List ℕ → Type 0 = λ ks. Progress g.E.State.Lattice.below (g.E.State.Lattice.valid (g.E.Equations.bounds c.args.equations.now)) (g.E.State.Lattice.rank (g.E.Equations.bounds c.args.equations.now)) (g.E.Equations.edges c.args.equations.now) (g.E.Equations.weight c.args.equations.now) (g.E.Equations.points c.args.equations.now) c.args.start c.args.first table ks [] (c.args.steps.now - c.args.steps.now) in
    let N : ℕ → Type 0 = λ n. Progress g.E.State.Lattice.below (g.E.State.Lattice.valid (g.E.Equations.bounds c.args.equations.now)) (g.E.State.Lattice.rank (g.E.Equations.bounds c.args.equations.now)) (g.E.Equations.edges c.args.equations.now) (g.E.Equations.weight c.args.equations.now) (g.E.Equations.points c.args.equations.now) c.args.start c.args.first table (c.args.start ∷ []) [] n in
    let nothing : 0 ≡ c.args.steps.now - c.args.steps.now = omega arith in
    record {
      counts = omega arith;
      run = subst P (sym keys_are) (subst N nothing (first_progress g.E.State.Lattice.below (g.E.State.Lattice.valid (g.E.Equations.bounds c.args.equations.now)) (g.E.State.Lattice.rank (g.E.Equations.bounds c.args.equations.now)) (g.E.Equations.edges c.args.equations.now) (g.E.Equations.weight c.args.equations.now) (g.E.Equations.points c.args.equations.now) c.args.start c.args.first (laws_of g c.args.equations.now c.requires.rise) table table_is c.requires.start c.requires.first));
    }

pub settle-requires-clause-waiting : goal.settle-requires-clause-waiting
settle-requires-clause-waiting g c = all_wait g.E.State.Lattice.below (g.E.State.Lattice.valid (g.E.Equations.bounds c.args.equations.now)) (g.E.State.Lattice.rank (g.E.Equations.bounds c.args.equations.now)) (g.E.Equations.edges c.args.equations.now) (g.E.Equations.weight c.args.equations.now) (g.E.Equations.points c.args.equations.now) c.args.start c.args.first c.rounds.states c.rounds.waiting.keys (c.rounds.steps - c.args.steps.now) c.rounds.invariant.run

pub rounds-preserved : goal.rounds-preserved
rounds-preserved g c =
    let run = visits_step g.E.State.Lattice.below (g.E.State.Lattice.valid (g.E.Equations.bounds c.args.equations.now)) (g.E.State.Lattice.rank (g.E.Equations.bounds c.args.equations.now)) (g.E.Equations.edges c.args.equations.now) (g.E.Equations.weight c.args.equations.now) (g.E.Equations.points c.args.equations.now) c.args.start c.args.first (laws_of g c.args.equations.now c.requires.rise) c.rounds.states c.rounds.waiting.keys (c.rounds.steps - c.args.steps.now) (c.settle.new.steps - c.rounds.steps) c.settle.new.states c.settle.new.waiting.keys c.rounds.invariant.run c.in_ok-met.ensures.visits in
    let sums : (c.rounds.steps - c.args.steps.now) + (c.settle.new.steps - c.rounds.steps) ≡ c.settle.new.steps - c.args.steps.now = omega (arith, c.rounds.invariant.counts, c.in_ok-met.ensures.counts) in
    let N : ℕ → Type 0 = λ n. Progress g.E.State.Lattice.below (g.E.State.Lattice.valid (g.E.Equations.bounds c.args.equations.now)) (g.E.State.Lattice.rank (g.E.Equations.bounds c.args.equations.now)) (g.E.Equations.edges c.args.equations.now) (g.E.Equations.weight c.args.equations.now) (g.E.Equations.points c.args.equations.now) c.args.start c.args.first c.settle.new.states c.settle.new.waiting.keys [] n in
    record { counts = omega (arith, c.rounds.invariant.counts, c.in_ok-met.ensures.counts); run = subst N sums run }

pub rounds-smaller : goal.rounds-smaller
rounds-smaller g c = c.in_ok-met.ensures.fewer c.if-not-met.false

pub returns-clause-least : goal.returns-clause-least
returns-clause-least g c =
    let run = visits_step g.E.State.Lattice.below (g.E.State.Lattice.valid (g.E.Equations.bounds c.args.equations.now)) (g.E.State.Lattice.rank (g.E.Equations.bounds c.args.equations.now)) (g.E.Equations.edges c.args.equations.now) (g.E.Equations.weight c.args.equations.now) (g.E.Equations.points c.args.equations.now) c.args.start c.args.first (laws_of g c.args.equations.now c.requires.rise) c.rounds.states c.rounds.waiting.keys (c.rounds.steps - c.args.steps.now) (c.settle.new.steps - c.rounds.steps) c.settle.new.states c.settle.new.waiting.keys c.rounds.invariant.run c.in_ok-met.ensures.visits in
    let sums : (c.rounds.steps - c.args.steps.now) + (c.settle.new.steps - c.rounds.steps) ≡ c.settle.new.steps - c.args.steps.now = omega (arith, c.rounds.invariant.counts, c.in_ok-met.ensures.counts) in
    let W : List ℕ → Type 0 = λ ks. Progress g.E.State.Lattice.below (g.E.State.Lattice.valid (g.E.Equations.bounds c.args.equations.now)) (g.E.State.Lattice.rank (g.E.Equations.bounds c.args.equations.now)) (g.E.Equations.edges c.args.equations.now) (g.E.Equations.weight c.args.equations.now) (g.E.Equations.points c.args.equations.now) c.args.start c.args.first c.settle.new.states ks [] ((c.rounds.steps - c.args.steps.now) + (c.settle.new.steps - c.rounds.steps)) in
    let done = subst W (c.in_ok-met.ensures.settled c.if-not-met.true) run in
    (finish g.E.State.Lattice.below (g.E.State.Lattice.valid (g.E.Equations.bounds c.args.equations.now)) (g.E.State.Lattice.rank (g.E.Equations.bounds c.args.equations.now)) (g.E.Equations.edges c.args.equations.now) (g.E.Equations.weight c.args.equations.now) (g.E.Equations.points c.args.equations.now) c.args.start c.args.first (laws_of g c.args.equations.now c.requires.rise) c.settle.new.states ((c.rounds.steps - c.args.steps.now) + (c.settle.new.steps - c.rounds.steps)) done)

pub returns-clause-reached : goal.returns-clause-reached
returns-clause-reached g c =
    let run = visits_step g.E.State.Lattice.below (g.E.State.Lattice.valid (g.E.Equations.bounds c.args.equations.now)) (g.E.State.Lattice.rank (g.E.Equations.bounds c.args.equations.now)) (g.E.Equations.edges c.args.equations.now) (g.E.Equations.weight c.args.equations.now) (g.E.Equations.points c.args.equations.now) c.args.start c.args.first (laws_of g c.args.equations.now c.requires.rise) c.rounds.states c.rounds.waiting.keys (c.rounds.steps - c.args.steps.now) (c.settle.new.steps - c.rounds.steps) c.settle.new.states c.settle.new.waiting.keys c.rounds.invariant.run c.in_ok-met.ensures.visits in
    let sums : (c.rounds.steps - c.args.steps.now) + (c.settle.new.steps - c.rounds.steps) ≡ c.settle.new.steps - c.args.steps.now = omega (arith, c.rounds.invariant.counts, c.in_ok-met.ensures.counts) in
    let W : List ℕ → Type 0 = λ ks. Progress g.E.State.Lattice.below (g.E.State.Lattice.valid (g.E.Equations.bounds c.args.equations.now)) (g.E.State.Lattice.rank (g.E.Equations.bounds c.args.equations.now)) (g.E.Equations.edges c.args.equations.now) (g.E.Equations.weight c.args.equations.now) (g.E.Equations.points c.args.equations.now) c.args.start c.args.first c.settle.new.states ks [] ((c.rounds.steps - c.args.steps.now) + (c.settle.new.steps - c.rounds.steps)) in
    let done = subst W (c.in_ok-met.ensures.settled c.if-not-met.true) run in
    (finish_reached g.E.State.Lattice.below (g.E.State.Lattice.valid (g.E.Equations.bounds c.args.equations.now)) (g.E.State.Lattice.rank (g.E.Equations.bounds c.args.equations.now)) (g.E.Equations.edges c.args.equations.now) (g.E.Equations.weight c.args.equations.now) (g.E.Equations.points c.args.equations.now) c.args.start c.args.first (laws_of g c.args.equations.now c.requires.rise) c.settle.new.states ((c.rounds.steps - c.args.steps.now) + (c.settle.new.steps - c.rounds.steps)) done)

pub returns-clause-stands : goal.returns-clause-stands
returns-clause-stands g c =
    let run = visits_step g.E.State.Lattice.below (g.E.State.Lattice.valid (g.E.Equations.bounds c.args.equations.now)) (g.E.State.Lattice.rank (g.E.Equations.bounds c.args.equations.now)) (g.E.Equations.edges c.args.equations.now) (g.E.Equations.weight c.args.equations.now) (g.E.Equations.points c.args.equations.now) c.args.start c.args.first (laws_of g c.args.equations.now c.requires.rise) c.rounds.states c.rounds.waiting.keys (c.rounds.steps - c.args.steps.now) (c.settle.new.steps - c.rounds.steps) c.settle.new.states c.settle.new.waiting.keys c.rounds.invariant.run c.in_ok-met.ensures.visits in
    let sums : (c.rounds.steps - c.args.steps.now) + (c.settle.new.steps - c.rounds.steps) ≡ c.settle.new.steps - c.args.steps.now = omega (arith, c.rounds.invariant.counts, c.in_ok-met.ensures.counts) in
    let W : List ℕ → Type 0 = λ ks. Progress g.E.State.Lattice.below (g.E.State.Lattice.valid (g.E.Equations.bounds c.args.equations.now)) (g.E.State.Lattice.rank (g.E.Equations.bounds c.args.equations.now)) (g.E.Equations.edges c.args.equations.now) (g.E.Equations.weight c.args.equations.now) (g.E.Equations.points c.args.equations.now) c.args.start c.args.first c.settle.new.states ks [] ((c.rounds.steps - c.args.steps.now) + (c.settle.new.steps - c.rounds.steps)) in
    let done = subst W (c.in_ok-met.ensures.settled c.if-not-met.true) run in
    done.stands

pub returns-clause-ticks : goal.returns-clause-ticks
returns-clause-ticks g c = λ most at_most.
    let run = visits_step g.E.State.Lattice.below (g.E.State.Lattice.valid (g.E.Equations.bounds c.args.equations.now)) (g.E.State.Lattice.rank (g.E.Equations.bounds c.args.equations.now)) (g.E.Equations.edges c.args.equations.now) (g.E.Equations.weight c.args.equations.now) (g.E.Equations.points c.args.equations.now) c.args.start c.args.first (laws_of g c.args.equations.now c.requires.rise) c.rounds.states c.rounds.waiting.keys (c.rounds.steps - c.args.steps.now) (c.settle.new.steps - c.rounds.steps) c.settle.new.states c.settle.new.waiting.keys c.rounds.invariant.run c.in_ok-met.ensures.visits in
    let sums : (c.rounds.steps - c.args.steps.now) + (c.settle.new.steps - c.rounds.steps) ≡ c.settle.new.steps - c.args.steps.now = omega (arith, c.rounds.invariant.counts, c.in_ok-met.ensures.counts) in
    let W : List ℕ → Type 0 = λ ks. Progress g.E.State.Lattice.below (g.E.State.Lattice.valid (g.E.Equations.bounds c.args.equations.now)) (g.E.State.Lattice.rank (g.E.Equations.bounds c.args.equations.now)) (g.E.Equations.edges c.args.equations.now) (g.E.Equations.weight c.args.equations.now) (g.E.Equations.points c.args.equations.now) c.args.start c.args.first c.settle.new.states ks [] ((c.rounds.steps - c.args.steps.now) + (c.settle.new.steps - c.rounds.steps)) in
    let done = subst W (c.in_ok-met.ensures.settled c.if-not-met.true) run in
    let weight = g.E.Equations.weight c.args.equations.now in
    let paid = finish_ticks g.E.State.Lattice.below (g.E.State.Lattice.valid (g.E.Equations.bounds c.args.equations.now)) (g.E.State.Lattice.rank (g.E.Equations.bounds c.args.equations.now)) (g.E.Equations.edges c.args.equations.now) (g.E.Equations.weight c.args.equations.now) (g.E.Equations.points c.args.equations.now) c.args.start c.args.first (laws_of g c.args.equations.now c.requires.rise) c.settle.new.states ((c.rounds.steps - c.args.steps.now) + (c.settle.new.steps - c.rounds.steps)) done most at_most in
    omega (arith, paid, c.rounds.invariant.counts, c.in_ok-met.ensures.counts)

pub returns-clause-bound : goal.returns-clause-bound
returns-clause-bound g c = λ most at_most.
    let run = visits_step g.E.State.Lattice.below (g.E.State.Lattice.valid (g.E.Equations.bounds c.args.equations.now)) (g.E.State.Lattice.rank (g.E.Equations.bounds c.args.equations.now)) (g.E.Equations.edges c.args.equations.now) (g.E.Equations.weight c.args.equations.now) (g.E.Equations.points c.args.equations.now) c.args.start c.args.first (laws_of g c.args.equations.now c.requires.rise) c.rounds.states c.rounds.waiting.keys (c.rounds.steps - c.args.steps.now) (c.settle.new.steps - c.rounds.steps) c.settle.new.states c.settle.new.waiting.keys c.rounds.invariant.run c.in_ok-met.ensures.visits in
    let bound = within_bound g.E.State.Lattice.below (g.E.State.Lattice.valid (g.E.Equations.bounds c.args.equations.now)) (g.E.State.Lattice.rank (g.E.Equations.bounds c.args.equations.now)) (g.E.Equations.edges c.args.equations.now) (g.E.Equations.weight c.args.equations.now) (g.E.Equations.points c.args.equations.now) c.args.start c.args.first (laws_of g c.args.equations.now c.requires.rise) c.settle.new.states c.settle.new.waiting.keys ((c.rounds.steps - c.args.steps.now) + (c.settle.new.steps - c.rounds.steps)) run most at_most in
    omega (arith, bound, c.rounds.invariant.counts, c.in_ok-met.ensures.counts)

pub returns-in_err-met-clause-bound : goal.returns-in_err-met-clause-bound
returns-in_err-met-clause-bound g c = λ most at_most.
    let bound = failed_bound g.E.State.Lattice.below (g.E.State.Lattice.valid (g.E.Equations.bounds c.args.equations.now)) (g.E.State.Lattice.rank (g.E.Equations.bounds c.args.equations.now)) (g.E.Equations.edges c.args.equations.now) (g.E.Equations.weight c.args.equations.now) (g.E.Equations.points c.args.equations.now) c.args.start c.args.first (laws_of g c.args.equations.now c.requires.rise) c.rounds.states c.rounds.waiting.keys (c.rounds.steps - c.args.steps.now) (c.settle.new.steps - c.rounds.steps) c.rounds.invariant.run c.in_err-met.ensures.failed most at_most in
    omega (arith, bound, c.rounds.invariant.counts, c.in_err-met.ensures.counts)
