-- What the rounds over a function end with, as the program names it, and how many steps they take.
use Rattle.std.specs.Prelude.{◌≡◌, ℕ, ◌+◌, ◌*◌, ◌≤◌, List, [], length, Contains}
use Rattle.vw_state.specs.declared.tables.PointState.{PointState}
use Rattle.vw_state.specs.declared.tables.FunctionTable.{FunctionTable}
use Rattle.vw_state.specs.Context.{Context}
use Rattle.vw_state.specs.Checks.{PassesGraph, StopsAt}
use Rattle.vw_state.specs.Laws.{tick_limit}
use Rattle.vw_state.specs.Rounds.{AreJumps, AreDistinct, IsRound, IsStable}
use Rattle.vw_graph.specs.declared.all_rounds.Rounds.{Rounds}
use Rattle.vw_graph.specs.declared.all_rounds.Rounds.TheVariants.{Stable, Stopped}

-- the table of the last round
abbrev pub last_table : Rounds → FunctionTable
last_table (Stable table) = table
last_table (Stopped table at check) = table

-- The rounds stop at the lowest point of the last round's table at which check 1 or 2 fails. They are stable where there
-- is none, and the table tells of no other jump.
abbrev pub EndsAs : Context → List (ℕ × ℕ) → Rounds → Type 0
EndsAs f pairs (Stable table) = IsStable f pairs table.states
EndsAs f pairs (Stopped table at check) = StopsAt f table.states at check

-- the rounds over a function
pub record IsRounds (f : Context) (rounds : Rounds) : Type 0 where
  pub entry_is : (last_table rounds).entry ≡ f.entry
  pub number : ℕ
  pub pairs : List (ℕ × ℕ)
  pub round : IsRound f number pairs (last_table rounds).states
  pub ends : EndsAs f pairs rounds

-- The pairs of a round that is begun: of the first, none; of another, those of which the table of the round before tells,
-- at which no check stops, and of which one is new.
pub data IsBegun (f : Context) : List (ℕ × ℕ) → Type 0 where
  first_begins : IsBegun f []
  next_begins : (number : ℕ) (pairs more : List (ℕ × ℕ)) (before : List PointState) (at to : ℕ) → IsRound f number pairs before → PassesGraph f before → AreJumps f before more → AreDistinct more
      → Contains more (at, to) → (Contains pairs (at, to) → ⊥) → IsBegun f more

-- So many steps are within the bound of the rounds: `tick_limit` for the first and for each pair of some round that is
-- begun. Each round has the pairs of those before, so the last one allows the most.
pub record WithinRounds (f : Context) (steps : ℕ) : Type 0 where
  pub pairs : List (ℕ × ℕ)
  pub begun : IsBegun f pairs
  pub within : steps ≤ (1 + length pairs) * tick_limit f
