-- How many steps a verdict on a module takes at most.
use Rattle.std.specs.Prelude.{ℕ, ◌+◌, List, [], ◌∷◌}
use Rattle.vw_layout.specs.declared.functions.Function.{Function}
use Rattle.vw_layout.specs.declared.layout.Module.{Module}
use Rattle.vw_state.specs.Context.{context_of}
use Rattle.vw_graph.specs.Rounds.{WithinRounds}

-- A sum of steps, for each of these functions of a module so many as its rounds may take. A function of which no round is
-- begun takes none.
pub data SumWithin (m : Module) : List Function → ℕ → Type 0 where
  none : SumWithin m [] 0
  one : (f : Function) (functions : List Function) (steps more : ℕ) → WithinRounds (context_of m f) steps → SumWithin m functions more → SumWithin m (f ∷ functions) (steps + more)
