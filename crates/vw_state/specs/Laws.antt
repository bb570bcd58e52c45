-- What holds of the edges of a function: they rise with the states that they leave, keep to valid states, and carry little
-- more than these.
use Rattle.std.specs.Prelude.{ℕ, ◌+◌, ◌*◌, ◌^◌, ◌≤◌, max, if◌then◌else◌, List, length}
use Rattle.std.specs.List.{All, Contains, list_any}
use Rattle.std.specs.Str.{bytes_eq}
use Rattle.vw_layout.specs.Calls.{probe_name}
use Rattle.vw_locals.specs.Ranges.{bytes}
use Rattle.vw_domain.specs.declared.parts.Parts.{Parts}
use Rattle.vw_domain.specs.Sites.{IsSite as IsEquationSite}
use Rattle.vw_domain.specs.State.{IsValidState, state_below}
use Rattle.vw_state.specs.Context.{Context, site_at}
use Rattle.vw_state.specs.Post.{edges_with}

-- what the equations read of the module is in its ranges
abbrev pub HasSites : Context → Type 0
HasSites f = (next : ℕ) → IsEquationSite (site_at f next)

-- For each edge of a state a greater state has one to the same point that carries a greater one, where jumps through
-- registers go from the first to the second points of fixed pairs.
abbrev pub EdgesRise : Context → Type 0
EdgesRise f =
    (pairs : List (ℕ × ℕ)) (at : ℕ) (low high : Parts) → IsValidState f.bounds low → IsValidState f.bounds high → state_below low high
    → All (λ edge. (u : Parts) × Contains {X = ℕ × Parts} (edges_with f pairs at high) (edge.0, u) × state_below edge.1 u) (edges_with f pairs at low)

-- edges carry valid states
abbrev pub EdgesAreValid : Context → Type 0
EdgesAreValid f =
    (pairs : List (ℕ × ℕ)) (at : ℕ) (state : Parts) → IsValidState f.bounds state → All (λ edge. IsValidState f.bounds edge.1) (edges_with f pairs at state)

-- how deep a function of the module may find the stack probed: not at all where the module does not import the probe
abbrev pub depth_limit : Context → ℕ
depth_limit f = if list_any (bytes_eq probe_name) f.image.imports then 2 ^ 32 else 0

-- an edge carries at most one slot more than the state that it leaves, and at most sixteen written bytes
pub record Grows (f : Context) (old new : Parts) : Type 0 where
  pub slots : length new.slots ≤ length old.slots + 1
  pub written : bytes new.written ≤ bytes old.written + 16
  pub probed : new.probed ≤ max old.probed (depth_limit f)

abbrev pub EdgesGrow : Context → Type 0
EdgesGrow f =
    (pairs : List (ℕ × ℕ)) (at : ℕ) (state : Parts) → IsValidState f.bounds state → All (λ edge. Grows f state edge.1) (edges_with f pairs at state)

-- No state that stands at a point in the course of the solution rises more often than so: by the points and the bounds,
-- and by the depth.
abbrev pub height_limit : Context → ℕ
height_limit f = depth_limit f + 64 * ((f.size + 1) * (length f.bounds + 8))

-- So many points are evaluated at most, each once more than a state can rise.
abbrev pub tick_limit : Context → ℕ
tick_limit f = (f.size + 1) * (height_limit f + 1)
