-- What is asked of the edges of equations over a lattice.
use Rattle.std.specs.Prelude.{ℕ, ◌<◌, List}
use Rattle.std.specs.List.{All, Contains}

-- A greater state has greater edges: for each edge of a state, each greater state has an edge to the same target that
-- carries a greater one. A valid state's edges carry valid states.
pub record AreRising {S : Type 0} (below : S → S → Type 0) (is_valid : S → Type 0) (edges : ℕ → S → List (ℕ × S)) (points : ℕ) : Type 0 where
  pub valid_edges : (at : ℕ) (x : S) → at < points → is_valid x → All {X = ℕ × S} (λ edge. is_valid edge.1) (edges at x)
  pub monotone : (at : ℕ) (x y : S) → at < points → is_valid x → is_valid y → below x y
      → All {X = ℕ × S} (λ edge. (u : S) × Contains {X = ℕ × S} (edges at y) (edge.0, u) × below edge.1 u) (edges at x)
