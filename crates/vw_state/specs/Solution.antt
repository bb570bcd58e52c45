-- Tables that solve a function's equations, and the least of them (Nielson, Nielson and Hankin, Principles of Program
-- Analysis, chapter 2).
use Rattle.std.specs.Prelude.{◌≡◌, ℕ, List, Some}
use Rattle.std.specs.List.{All}
use Rattle.vw_domain.specs.declared.parts.Parts.{Parts}
use Rattle.vw_domain.specs.State.{IsValidState, state_below, entry_state}
use Rattle.vw_state.specs.declared.tables.PointState.{PointState}
use Rattle.vw_state.specs.Context.{Context}
use Rattle.vw_state.specs.Post.{Post, PostWith}
use Rattle.vw_state.specs.Tables.{state_of, RisesWithin}

-- A state that an edge carries lands below that of the edge's target: the table gives the target a state, each bound of
-- its values is one of the function's, and it is greater or equal.
pub record Lands (f : Context) (table : List PointState) (edge : ℕ × Parts) : Type 0 where
  pub cover : Parts
  pub there : state_of table edge.0 ≡ Some cover
  pub fits : IsValidState f.bounds cover
  pub is_below : state_below edge.1 cover

-- A table that gives some points, from 0 to the size, a state each: the entry state lands at 0, and so does each of the
-- edges that leave a point with its state.
pub record SolvesBy (f : Context) (Edges : ℕ → Parts → List (ℕ × Parts) → Type 0) (table : List PointState) : Type 0 where
  pub rises : RisesWithin 0 f.size table
  pub begins : Lands f table (0, entry_state)
  pub closed : (at : ℕ) (state : Parts) → state_of table at ≡ Some state → (edges : List (ℕ × Parts)) → Edges at state edges → All (Lands f table) edges

-- a solution of the function's equations
abbrev pub Solves : Context → List PointState → Type 0
Solves f = SolvesBy f (Post f)

-- a solution where jumps through registers go from the first to the second points of pairs
abbrev pub SolvesWith : Context → List (ℕ × ℕ) → List PointState → Type 0
SolvesWith f pairs = SolvesBy f (PostWith f pairs)

-- each state of `low` lands in `high`
abbrev pub IsLower : Context → List PointState → List PointState → Type 0
IsLower f low high = (at : ℕ) (state : Parts) → state_of low at ≡ Some state → Lands f high (at, state)

-- a solution with these pairs that is lower than every such solution
pub record IsLeastWith (f : Context) (pairs : List (ℕ × ℕ)) (table : List PointState) : Type 0 where
  pub solution : SolvesWith f pairs table
  pub least : (other : List PointState) → SolvesWith f pairs other → IsLower f table other
