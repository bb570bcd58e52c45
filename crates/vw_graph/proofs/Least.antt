-- The least solution of a function's equations as a table of its points.
use Rattle.std.proofs.Common.{◌≡◌, ℕ, ◌+◌, List, [], Option, Some, slice_index_or, All, sym, ◌∙◌, subst, arith}
use Rattle.std.proofs.lemmas.List.Elements.{All-contains}
use Rattle.vw_lattice.specs.Order.{IsJoin}
use Rattle.vw_rows.specs.Numbers.{IsBytes}
use Rattle.vw_solver.specs.Solution as solver
use Rattle.vw_solver.specs.Solution.{state_at, IsCovered, weights_from}
use Rattle.vw_solver.specs.Standing.{IsTable}
use Rattle.vw_stmt.specs.declared.operands.Var.{Var}
use Rattle.vw_domain.specs.declared.parts.Parts.{Parts}
use Rattle.vw_domain.specs.Abstract.{Abstract}
use Rattle.vw_domain.specs.FormLaws.{EntryIsState}
use Rattle.vw_domain.specs.State.{IsValidState, state_below, entry_state}
use Rattle.vw_domain.specs.StateOrder.{state_transitive}
use Rattle.vw_state.specs.declared.tables.PointState.{PointState}
use Rattle.vw_state.specs.Context.{Context, code_of}
use Rattle.vw_state.specs.Laws.{EdgesRise, EdgesAreValid}
use Rattle.vw_state.specs.Post.{seconds, PostBy, PostWith, edges_by, edges_with}
use Rattle.vw_state.specs.Tables.{state_of}
use Rattle.vw_state.specs.Solution.{Lands, SolvesWith, IsLower, IsLeastWith}
use Rattle.vw_graph.specs.search.Solved.{gather}
use Rattle.vw_graph.proofs.Gathered.{gathered, gather_rises}
use Rattle.vw_graph.proofs.StandingLemmas.{Keeps, standing_good}

-- each point has the edges that are read, and no others
abbrev pub Are : Type 0
Are = (f : Context) (targets : Var → Abstract → List ℕ) (at : ℕ) (state : Parts) → IsBytes (code_of f) → PostBy f targets at state (edges_by f targets at state)

abbrev pub Only : Type 0
Only = (f : Context) (targets : Var → Abstract → List ℕ) (at : ℕ) (state : Parts) (edges : List (ℕ × Parts)) → IsBytes (code_of f) → PostBy f targets at state edges → edges ≡ edges_by f targets at state

one_state : (o : Option Parts) (a b : Parts) → o ≡ Some a → o ≡ Some b → a ≡ b
one_state o a b is_a is_b = cc

module _ (are : Are) (only : Only) (entry : EntryIsState) (f : Context) (bytes : IsBytes (code_of f)) (rise : EdgesRise f) (valid : EdgesAreValid f) (pairs : List (ℕ × ℕ)) (points : ℕ) (size : points ≡ f.size + 1) where
  abbrev EdgesOf : ℕ → Parts → List (ℕ × Parts)
  EdgesOf at state = edges_with f pairs at state

  abbrev IsValid : Parts → Type 0
  IsValid = IsValidState f.bounds

  abbrev targets_at : ℕ → Var → Abstract → List ℕ
  targets_at at src st = seconds at pairs

  -- ---- each state that stands is below that of a solution

  module _ (other : List PointState) (solution : SolvesWith f pairs other) where
    abbrev IsUnder : ℕ → Parts → Type 0
    IsUnder at state = IsValid state × Lands f other (at, state)

    edge_under : (at : ℕ) (state : Parts) → IsUnder at state → All {X = ℕ × Parts} (λ edge. IsUnder edge.0 edge.1) (edges_with f pairs at state)
    edge_under at state under = λ k d less.
        let edge : ℕ × Parts = slice_index_or (edges_with f pairs at state) k d in
        let cover : Parts = under.1.cover in
        let above : List (ℕ × Parts) = edges_with f pairs at cover in
        let rises = rise pairs at state cover under.0 under.1.fits under.1.is_below k d less in
        let u : Parts = rises.0 in
        let V : ℕ × Parts → Type 0 = λ e. IsValid e.1 in
        let here : IsValid edge.1 = valid pairs at state under.0 k d less in
        let middle : IsValid u = All-contains V above (edge.0, u) (valid pairs at cover under.1.fits) rises.1 in
        let lands : Lands f other (edge.0, u) = All-contains (Lands f other) above (edge.0, u) (solution.closed at cover under.1.there above (are f (targets_at at) at cover bytes)) rises.1 in
        (here, record { cover = lands.cover; there = lands.there; fits = lands.fits; is_below = state_transitive f.bounds edge.1 u lands.cover here middle lands.fits rises.2 lands.is_below })

    join_under : (at : ℕ) (x y join : Parts) → IsUnder at x → IsUnder at y → IsJoin state_below IsValid x y join → IsUnder at join
    join_under at x y join x_under y_under is =
        let same : y_under.1.cover ≡ x_under.1.cover = one_state (state_of other at) y_under.1.cover x_under.1.cover y_under.1.there x_under.1.there in
        let y_below : state_below y x_under.1.cover = subst (λ (s : Parts). state_below y s) same y_under.1.is_below in
        (is.valid, record { cover = x_under.1.cover; there = x_under.1.there; fits = x_under.1.fits; is_below = is.least x_under.1.cover x_under.1.fits x_under.1.is_below y_below })

    keeps : Keeps state_below IsValid IsUnder EdgesOf points 0 entry_state
    keeps = record {
      first_good = (entry f.bounds, solution.begins);
      edge_good = λ at state inside under. edge_under at state under;
      join_good = join_under;
    }

  -- ---- the solver's least table is the least table of points

  module _ (table : List (Option Parts)) (least : solver.IsLeast state_below IsValid EdgesOf points 0 entry_state table) (stands : IsTable state_below IsValid EdgesOf points 0 entry_state table []) where
    lands : (edge : ℕ × Parts) → IsCovered state_below table edge.0 edge.1 → Lands f (gather 0 table) edge
    lands edge covered = record {
      cover = covered.cover;
      there = gathered table edge.0 ∙ covered.there;
      fits = least.solution.valid edge.0 covered.cover covered.there;
      is_below = covered.is_below;
    }

    all_land : (at : ℕ) (state : Parts) → state_of (gather 0 table) at ≡ Some state → (edges : List (ℕ × Parts)) → PostWith f pairs at state edges → All (Lands f (gather 0 table)) edges
    all_land at state e edges post =
        subst (λ (es : List (ℕ × Parts)). All (Lands f (gather 0 table)) es) (sym (only f (targets_at at) at state edges bytes post))
        (λ k d less. lands (slice_index_or (edges_with f pairs at state) k d) (least.solution.closed at state (sym (gathered table at) ∙ e) k d less))

    lower : (other : List PointState) → SolvesWith f pairs other → IsLower f (gather 0 table) other
    lower other solution at state e =
        (standing_good state_below IsValid (IsUnder other solution) EdgesOf points 0 entry_state (keeps other solution) at state (record { table = table; pending = []; is_table = stands; there = sym (gathered table at) ∙ e })).1

    pub is_least : IsLeastWith f pairs (gather 0 table)
    is_least = record {
      solution = record {
        rises = gather_rises 0 f.size table (omega (arith, least.solution.size, size));
        begins = lands (0, entry_state) least.solution.begins;
        closed = all_land;
      };
      least = lower;
    }
