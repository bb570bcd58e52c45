use Rattle.std.proofs.Common.{◌-◌, ◌≤◌, ℕ, []}
use Rattle.vw_solver.specs.search.Tables.{empties}
use Rattle.vw_solver.specs.Seed.{IsSeed, HasSeed}
use Rattle.vw_solver.proofs.Search.{Progress}
use Rattle.vw_solver.proofs.solution.resume.Given as goal

abbrev pub invariant-rounds : goal.invariant-rounds
invariant-rounds g l = record {
  counts : l.initial.steps ≤ l.steps;
  has : HasSeed g.E.State.Lattice.below (g.E.State.Lattice.valid (g.E.Equations.bounds l.equations)) (g.E.Equations.edges l.equations) (g.E.Equations.points l.equations) l.fn.table l.fn.points.keys;
  run : (start : ℕ) (first : g.row.E-State.Denot) → IsSeed g.E.State.Lattice.below (g.E.State.Lattice.valid (g.E.Equations.bounds l.equations)) (g.E.Equations.edges l.equations) (g.E.Equations.points l.equations) start first l.fn.table l.fn.points.keys → Progress g.E.State.Lattice.below (g.E.State.Lattice.valid (g.E.Equations.bounds l.equations)) (g.E.State.Lattice.rank (g.E.Equations.bounds l.equations)) (g.E.Equations.edges l.equations) (g.E.Equations.weight l.equations) (g.E.Equations.points l.equations) start first l.states l.waiting.keys [] (l.steps - l.initial.steps);
}

abbrev pub decreases-rounds : goal.decreases-rounds
decreases-rounds g l = empties l.states
