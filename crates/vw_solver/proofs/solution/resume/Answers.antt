use Rattle.std.proofs.Common.{◌≡◌, ◌+◌, ◌-◌, ℕ, [], List, subst, arith}
use Rattle.vw_solver.specs.Rising.{AreRising}
use Rattle.vw_solver.proofs.Search.{Laws, Progress, visits_step, finish, finish_reached, finish_ticks, within_bound, failed_bound, all_wait}
use Rattle.vw_solver.proofs.Seeds.{seed_progress}
use Rattle.vw_solver.proofs.solution.resume.Given.{Over}
use Rattle.vw_solver.proofs.solution.resume.Goals as goal

laws_of : (g : Over) (e : g.row.E.Denot) → AreRising g.E.State.Lattice.below (g.E.State.Lattice.valid (g.E.Equations.bounds e)) (g.E.Equations.edges e) (g.E.Equations.points e) → Laws g.E.State.Lattice.below (g.E.State.Lattice.valid (g.E.Equations.bounds e)) (g.E.State.Lattice.rank (g.E.Equations.bounds e)) (g.E.Equations.edges e) (g.E.Equations.points e)
laws_of g e rise = record {
  reflexive = g.met.E.State.Lattice.reflexive (g.E.Equations.bounds e);
  transitive = g.met.E.State.Lattice.transitive (g.E.Equations.bounds e);
  falls = g.met.E.State.Lattice.rank_falls (g.E.Equations.bounds e);
  strict = g.met.E.State.Lattice.rank_strict (g.E.Equations.bounds e);
  valid_edges = rise.valid_edges;
  monotone = rise.monotone;
}

pub rounds-init : goal.rounds-init
rounds-init g c = record {
  counts = omega arith;
  has = c.requires.seed;
  run = λ start first seed.
      let N : ℕ → Type 0 = λ n. Progress g.E.State.Lattice.below (g.E.State.Lattice.valid (g.E.Equations.bounds c.args.equations.now)) (g.E.State.Lattice.rank (g.E.Equations.bounds c.args.equations.now)) (g.E.Equations.edges c.args.equations.now) (g.E.Equations.weight c.args.equations.now) (g.E.Equations.points c.args.equations.now) start first c.args.table c.args.points.keys [] n in
      let nothing : 0 ≡ c.args.steps.now - c.args.steps.now = omega arith in
      subst N nothing (seed_progress g.E.State.Lattice.below (g.E.State.Lattice.valid (g.E.Equations.bounds c.args.equations.now)) (g.E.State.Lattice.rank (g.E.Equations.bounds c.args.equations.now)) (g.E.Equations.edges c.args.equations.now) (g.E.Equations.weight c.args.equations.now) (g.E.Equations.points c.args.equations.now) start first c.args.table c.args.points.keys seed);
}

pub settle-requires-clause-waiting : goal.settle-requires-clause-waiting
settle-requires-clause-waiting g c =
    let start = c.requires.seed.start in
    let first = c.requires.seed.first in
    all_wait g.E.State.Lattice.below (g.E.State.Lattice.valid (g.E.Equations.bounds c.args.equations.now)) (g.E.State.Lattice.rank (g.E.Equations.bounds c.args.equations.now)) (g.E.Equations.edges c.args.equations.now) (g.E.Equations.weight c.args.equations.now) (g.E.Equations.points c.args.equations.now) start first c.rounds.states c.rounds.waiting.keys (c.rounds.steps - c.args.steps.now) (c.rounds.invariant.run start first c.requires.seed.seed)

pub rounds-preserved : goal.rounds-preserved
rounds-preserved g c = record {
  counts = omega (arith, c.rounds.invariant.counts, c.in_ok-met.ensures.counts);
  has = c.requires.seed;
  run = λ start first seed.
      let run = visits_step g.E.State.Lattice.below (g.E.State.Lattice.valid (g.E.Equations.bounds c.args.equations.now)) (g.E.State.Lattice.rank (g.E.Equations.bounds c.args.equations.now)) (g.E.Equations.edges c.args.equations.now) (g.E.Equations.weight c.args.equations.now) (g.E.Equations.points c.args.equations.now) start first (laws_of g c.args.equations.now c.requires.rise) c.rounds.states c.rounds.waiting.keys (c.rounds.steps - c.args.steps.now) (c.settle.new.steps - c.rounds.steps) c.settle.new.states c.settle.new.waiting.keys (c.rounds.invariant.run start first seed) c.in_ok-met.ensures.visits in
      let sums : (c.rounds.steps - c.args.steps.now) + (c.settle.new.steps - c.rounds.steps) ≡ c.settle.new.steps - c.args.steps.now = omega (arith, c.rounds.invariant.counts, c.in_ok-met.ensures.counts) in
      let N : ℕ → Type 0 = λ n. Progress g.E.State.Lattice.below (g.E.State.Lattice.valid (g.E.Equations.bounds c.args.equations.now)) (g.E.State.Lattice.rank (g.E.Equations.bounds c.args.equations.now)) (g.E.Equations.edges c.args.equations.now) (g.E.Equations.weight c.args.equations.now) (g.E.Equations.points c.args.equations.now) start first c.settle.new.states c.settle.new.waiting.keys [] n in
      subst N sums run;
}

pub returns-clause-grown : goal.returns-clause-grown
returns-clause-grown g c = λ start first seed.
    let run = visits_step g.E.State.Lattice.below (g.E.State.Lattice.valid (g.E.Equations.bounds c.args.equations.now)) (g.E.State.Lattice.rank (g.E.Equations.bounds c.args.equations.now)) (g.E.Equations.edges c.args.equations.now) (g.E.Equations.weight c.args.equations.now) (g.E.Equations.points c.args.equations.now) start first (laws_of g c.args.equations.now c.requires.rise) c.rounds.states c.rounds.waiting.keys (c.rounds.steps - c.args.steps.now) (c.settle.new.steps - c.rounds.steps) c.settle.new.states c.settle.new.waiting.keys (c.rounds.invariant.run start first seed) c.in_ok-met.ensures.visits in
    let ticks : ℕ = (c.rounds.steps - c.args.steps.now) + (c.settle.new.steps - c.rounds.steps) in
    let W : List ℕ → Type 0 = λ ks. Progress g.E.State.Lattice.below (g.E.State.Lattice.valid (g.E.Equations.bounds c.args.equations.now)) (g.E.State.Lattice.rank (g.E.Equations.bounds c.args.equations.now)) (g.E.Equations.edges c.args.equations.now) (g.E.Equations.weight c.args.equations.now) (g.E.Equations.points c.args.equations.now) start first c.settle.new.states ks [] ticks in
    let done = subst W (c.in_ok-met.ensures.settled c.if-not-met.true) run in
    (record {
      least = finish g.E.State.Lattice.below (g.E.State.Lattice.valid (g.E.Equations.bounds c.args.equations.now)) (g.E.State.Lattice.rank (g.E.Equations.bounds c.args.equations.now)) (g.E.Equations.edges c.args.equations.now) (g.E.Equations.weight c.args.equations.now) (g.E.Equations.points c.args.equations.now) start first (laws_of g c.args.equations.now c.requires.rise) c.settle.new.states ticks done;
      reached = finish_reached g.E.State.Lattice.below (g.E.State.Lattice.valid (g.E.Equations.bounds c.args.equations.now)) (g.E.State.Lattice.rank (g.E.Equations.bounds c.args.equations.now)) (g.E.Equations.edges c.args.equations.now) (g.E.Equations.weight c.args.equations.now) (g.E.Equations.points c.args.equations.now) start first (laws_of g c.args.equations.now c.requires.rise) c.settle.new.states ticks done;
      stands = done.stands;
    })

pub returns-clause-ticks : goal.returns-clause-ticks
returns-clause-ticks g c = λ start first seed most at_most.
    let run = visits_step g.E.State.Lattice.below (g.E.State.Lattice.valid (g.E.Equations.bounds c.args.equations.now)) (g.E.State.Lattice.rank (g.E.Equations.bounds c.args.equations.now)) (g.E.Equations.edges c.args.equations.now) (g.E.Equations.weight c.args.equations.now) (g.E.Equations.points c.args.equations.now) start first (laws_of g c.args.equations.now c.requires.rise) c.rounds.states c.rounds.waiting.keys (c.rounds.steps - c.args.steps.now) (c.settle.new.steps - c.rounds.steps) c.settle.new.states c.settle.new.waiting.keys (c.rounds.invariant.run start first seed) c.in_ok-met.ensures.visits in
    let ticks : ℕ = (c.rounds.steps - c.args.steps.now) + (c.settle.new.steps - c.rounds.steps) in
    let W : List ℕ → Type 0 = λ ks. Progress g.E.State.Lattice.below (g.E.State.Lattice.valid (g.E.Equations.bounds c.args.equations.now)) (g.E.State.Lattice.rank (g.E.Equations.bounds c.args.equations.now)) (g.E.Equations.edges c.args.equations.now) (g.E.Equations.weight c.args.equations.now) (g.E.Equations.points c.args.equations.now) start first c.settle.new.states ks [] ticks in
    let done = subst W (c.in_ok-met.ensures.settled c.if-not-met.true) run in
    let weight = g.E.Equations.weight c.args.equations.now in
    let paid = finish_ticks g.E.State.Lattice.below (g.E.State.Lattice.valid (g.E.Equations.bounds c.args.equations.now)) (g.E.State.Lattice.rank (g.E.Equations.bounds c.args.equations.now)) (g.E.Equations.edges c.args.equations.now) (g.E.Equations.weight c.args.equations.now) (g.E.Equations.points c.args.equations.now) start first (laws_of g c.args.equations.now c.requires.rise) c.settle.new.states ticks done most at_most in
    omega (arith, paid, c.rounds.invariant.counts, c.in_ok-met.ensures.counts)

pub returns-clause-bound : goal.returns-clause-bound
returns-clause-bound g c = λ start first seed most at_most.
    let run = visits_step g.E.State.Lattice.below (g.E.State.Lattice.valid (g.E.Equations.bounds c.args.equations.now)) (g.E.State.Lattice.rank (g.E.Equations.bounds c.args.equations.now)) (g.E.Equations.edges c.args.equations.now) (g.E.Equations.weight c.args.equations.now) (g.E.Equations.points c.args.equations.now) start first (laws_of g c.args.equations.now c.requires.rise) c.rounds.states c.rounds.waiting.keys (c.rounds.steps - c.args.steps.now) (c.settle.new.steps - c.rounds.steps) c.settle.new.states c.settle.new.waiting.keys (c.rounds.invariant.run start first seed) c.in_ok-met.ensures.visits in
    let bound = within_bound g.E.State.Lattice.below (g.E.State.Lattice.valid (g.E.Equations.bounds c.args.equations.now)) (g.E.State.Lattice.rank (g.E.Equations.bounds c.args.equations.now)) (g.E.Equations.edges c.args.equations.now) (g.E.Equations.weight c.args.equations.now) (g.E.Equations.points c.args.equations.now) start first (laws_of g c.args.equations.now c.requires.rise) c.settle.new.states c.settle.new.waiting.keys ((c.rounds.steps - c.args.steps.now) + (c.settle.new.steps - c.rounds.steps)) run most at_most in
    omega (arith, bound, c.rounds.invariant.counts, c.in_ok-met.ensures.counts)

pub returns-in_err-met-clause-bound : goal.returns-in_err-met-clause-bound
returns-in_err-met-clause-bound g c = λ start first seed most at_most.
    let bound = failed_bound g.E.State.Lattice.below (g.E.State.Lattice.valid (g.E.Equations.bounds c.args.equations.now)) (g.E.State.Lattice.rank (g.E.Equations.bounds c.args.equations.now)) (g.E.Equations.edges c.args.equations.now) (g.E.Equations.weight c.args.equations.now) (g.E.Equations.points c.args.equations.now) start first (laws_of g c.args.equations.now c.requires.rise) c.rounds.states c.rounds.waiting.keys (c.rounds.steps - c.args.steps.now) (c.settle.new.steps - c.rounds.steps) (c.rounds.invariant.run start first seed) c.in_err-met.ensures.failed most at_most in
    omega (arith, bound, c.rounds.invariant.counts, c.in_err-met.ensures.counts)
