-- Rounds of functions that have safe tables.
use Rattle.std.proofs.Common.{◌≡◌, ◌⊎◌, inl, inr, ◌∙◌, ℕ, List, Some, sym, subst}
use Rattle.vw_rows.specs.Numbers.{IsBytes}
use Rattle.vw_domain.specs.declared.parts.Parts.{Parts}
use Rattle.vw_domain.specs.State.{IsValidState, state_below}
use Rattle.vw_state.specs.declared.tables.PointState.{PointState}
use Rattle.vw_state.specs.Checks.{PassesGraph}
use Rattle.vw_state.specs.Context.{Context, code_of}
use Rattle.vw_state.specs.Laws.{HasSites}
use Rattle.vw_state.specs.Rounds.{IsRound, first_round, next_round, Stops, IsStable}
use Rattle.vw_state.specs.Solution.{Solves, IsLeastWith, IsLower}
use Rattle.vw_state.specs.Tables.{state_of}
use Rattle.vw_checks.specs.Checks.{Passes}
use Rattle.vw_checks.specs.Safe.{NoneFails, IsSafeTable}
use Rattle.vw_checks.proofs.Rising.{graph_fails}

-- where no check fails at a state, none fails at a lower one
abbrev pub IsMonotone : Type 0
IsMonotone =
    (f : Context) (at : ℕ) (low high : Parts) → IsBytes (code_of f) → HasSites f → IsValidState f.bounds low → IsValidState f.bounds high → state_below low high
    → Passes f at high → Passes f at low

-- the table of a round is lower than every solution at whose points no check of the graph fails
abbrev pub RoundsAreLower : Type 0
RoundsAreLower =
    (f : Context) (number : ℕ) (pairs : List (ℕ × ℕ)) (table other : List PointState) → IsBytes (code_of f) → HasSites f → IsRound f number pairs table → Solves f other → PassesGraph f other → IsLower f table other

-- the checks of the graph are among all
pub none_of_graph : (f : Context) (table : List PointState) → NoneFails f table → PassesGraph f table
none_of_graph f table none at state there check fails = none at state there check (graph_fails f at check state fails)

-- the table of a round is the least with its pairs
least_with : (f : Context) (number : ℕ) (pairs : List (ℕ × ℕ)) (table : List PointState) → IsRound f number pairs table → IsLeastWith f pairs table
least_with f _ _ table (first_round _ least) = least
least_with f _ _ table (next_round number pairs more before _ at to round passes jumps distinct is new least) = least

module _ (f : Context) (number : ℕ) (pairs : List (ℕ × ℕ)) (table safe : List PointState) (bytes : IsBytes (code_of f)) (sites : HasSites f) (round : IsRound f number pairs table) (is_safe : IsSafeTable f safe) where
  pub round_lower : RoundsAreLower → IsLower f table safe
  round_lower lower = lower f number pairs table safe bytes sites round is_safe.solution (none_of_graph f safe is_safe.passes)

  -- the state that the round's table gives a point is valid
  is_valid : (at : ℕ) (state cover : Parts) → state_of table at ≡ Some state → state_of table at ≡ Some cover → IsValidState f.bounds cover → IsValidState f.bounds state
  is_valid at state cover here there valid =
      let both : Some cover ≡ Some state = sym there ∙ here in
      let same : cover ≡ state = cc in
      subst (λ (s : Parts). IsValidState f.bounds s) same valid

  pub round_passes : IsMonotone → IsLower f table safe → NoneFails f table
  round_passes monotone lower at state there =
      let above = lower at state there in
      let least = least_with f number pairs table round in
      let itself = least.least table least.solution at state there in
      monotone f at state above.cover bytes sites (is_valid at state itself.cover there itself.there itself.fits) above.fits above.is_below (is_safe.passes at above.cover above.there)

-- rounds end at a table at whose points no check fails because they are stable
pub ends_stable : (f : Context) (pairs : List (ℕ × ℕ)) (table : List PointState) → NoneFails f table → Stops f table ⊎ IsStable f pairs table → IsStable f pairs table
ends_stable f pairs table none (inl out) = absurd (none_of_graph f table none out.at out.stops.state out.stops.there out.check out.stops.fails)
ends_stable f pairs table none (inr stable) = stable
