-- A round begins from the table of the round before.
use Rattle.std.proofs.Common.{◌≡◌, ℕ, List, [], ◌∷◌, Option, Some, inl, inr, ◌⊎◌}
use Rattle.std.specs.List.{Contains}
use Rattle.std.proofs.lemmas.List.Elements.{All-contains}
use Rattle.vw_solver.specs.Seed.{AreDistinct, IsSeed, Grown}
use Rattle.vw_solver.specs.Solution.{state_at, IsCovered, IsSolution}
use Rattle.vw_solver.specs.Standing.{IsTable, at_first, at_visit, at_landing, at_skip}
use Rattle.vw_graph.proofs.Members.{all_from_contains}

module _ {S : Type 0} (below : S → S → Type 0) (is_valid : S → Type 0) (edges more : ℕ → S → List (ℕ × S)) (points start : ℕ) (first : S) (each : (p : ℕ) (s : S) (e : ℕ × S) → Contains (edges p s) e → Contains (more p s) e) where
  -- a table stands where there are more edges
  table_more : (table : List (Option S)) (pending : List (ℕ × S)) → IsTable below is_valid edges points start first table pending → IsTable below is_valid more points start first table pending
  table_more table pending (at_first inside) = at_first inside
  table_more table some (at_visit t pending some' point state is at all) = at_visit table pending some point state (table_more table pending is) at (λ e c. each point state e (all e c))
  table_more new rest (at_landing table new' edge rest' is one) = at_landing table new edge rest (table_more table (edge ∷ rest) is) one
  table_more table rest (at_skip t edge rest' is) = at_skip table edge rest (table_more table (edge ∷ rest) is)

  -- a solution with more edges is one with fewer
  fewer_solve : (table : List (Option S)) → IsSolution below is_valid more points start first table → IsSolution below is_valid edges points start first table
  fewer_solve table solution = record {
    size = solution.size;
    valid = solution.valid;
    begins = solution.begins;
    closed = λ p s there.
        let C : ℕ × S → Type 0 = λ e. IsCovered below table e.0 e.1 in all_from_contains C (edges p s) (λ e c. All-contains C (more p s) e (solution.closed p s there) (each p s e c));
  }

  -- What was solved with fewer edges is a seed, where each point with another edge waits.
  pub restart : (table : List (Option S)) (waiting : List ℕ) → is_valid first → Grown below is_valid edges points start first table → AreDistinct waiting → ((p : ℕ) → Contains waiting p → (s : S) × (state_at table p ≡ Some s))
      → ((p : ℕ) → Contains waiting p ⊎ ((s : S) (e : ℕ × S) → Contains (more p s) e → Contains (edges p s) e)) → IsSeed below is_valid more points start first table waiting
  restart table waiting first_valid grown distinct there waits = record {
    size = grown.least.solution.size;
    first_valid = first_valid;
    valid = grown.least.solution.valid;
    begins = grown.least.solution.begins;
    closed = λ p s at. elim (waits p) [
      | inl is ↦ inl is
      | inr as_before ↦
          let C : ℕ × S → Type 0 = λ x. IsCovered below table x.0 x.1 in
          inr (all_from_contains C (more p s) (λ e c. All-contains C (edges p s) e (grown.least.solution.closed p s at) (as_before s e c)))
    ];
    there = there;
    distinct = distinct;
    least = λ other solution. grown.least.least other (fewer_solve other solution);
    reached = λ p s at. elim (grown.reached.reached p s at) [
      | inl begins ↦ inl begins
      | inr by ↦ inr (record { from = by.from; state = by.state; there = by.there; carried = by.carried; edge = each by.from by.state (p, by.carried) by.edge })
    ];
    stands = table_more table [] grown.stands;
  }
