-- What solving the equations of a round gives, from what is known of the function and of the equations that are solved.
use Rattle.std.proofs.Common.{◌≡◌, ℕ, ◌+◌, ◌*◌, ◌≤◌, List, Option, refl, sym, subst}
use Rattle.vw_solver.specs.Rising.{AreRising}
use Rattle.vw_solver.specs.Seed.{IsSeed, HasSeed, Grown}
use Rattle.vw_solver.specs.Solution.{weights_from}
use Rattle.vw_solver.specs.Standing.{RanksAtMost}
use Rattle.vw_domain.specs.declared.parts.Parts.{Parts}
use Rattle.vw_domain.specs.FormLaws.{EntryIsState}
use Rattle.vw_domain.specs.Ranks.{StateRanksAreSmall}
use Rattle.vw_domain.specs.State.{IsValidState, state_below, entry_state, state_rank}
use Rattle.vw_state.specs.Context.{Context}
use Rattle.vw_state.specs.Laws.{EdgesRise, EdgesAreValid, EdgesGrow, tick_limit, height_limit}
use Rattle.vw_state.specs.Post.{edges_with}
use Rattle.vw_graph.specs.search.Course.{IsSolvedWith, IsSeedWith}
use Rattle.vw_graph.proofs.Heights.{heights, counted}

-- a function in its module, with pairs
abbrev pub Equations : Type 0
Equations = Context × List (ℕ × ℕ)

abbrev pub edges_of : Equations → ℕ → Parts → List (ℕ × Parts)
edges_of g at state = edges_with g.0 g.1 at state

abbrev pub IsGrownBy : Equations → Parts → List (Option Parts) → Type 0
IsGrownBy g first table = Grown state_below (IsValidState g.0.bounds) (edges_of g) (g.0.size + 1) 0 first table

abbrev pub IsSeedBy : Equations → Parts → List (Option Parts) → List ℕ → Type 0
IsSeedBy g first table waiting = IsSeed state_below (IsValidState g.0.bounds) (edges_of g) (g.0.size + 1) 0 first table waiting

-- so many steps were taken at most, by the ranks of the states that stand
abbrev pub IsCountedBy : Equations → Parts → ℕ → ℕ → Type 0
IsCountedBy g first old new = (most : ℕ) → RanksAtMost state_below (IsValidState g.0.bounds) (edges_of g) (g.0.size + 1) 0 first (state_rank g.0.bounds) most → new ≤ old + weights_from (λ at. 1) 0 (g.0.size + 1) * (most + 1)

module _ (f : Context) (pairs : List (ℕ × ℕ)) (g : Equations) (same : g ≡ (f, pairs)) where
  pub rising : EdgesRise f → EdgesAreValid f → AreRising state_below (IsValidState g.0.bounds) (edges_of g) (g.0.size + 1)
  rising rise valid =
      subst (λ (h : Equations). AreRising state_below (IsValidState h.0.bounds) (edges_of h) (h.0.size + 1)) (sym same)
      (record { valid_edges = λ at x inside is_valid. valid pairs at x is_valid; monotone = λ at x y inside valid_x valid_y under. rise pairs at x y valid_x valid_y under })

  module _ (first : Parts) (first_is : first ≡ entry_state) where
    pub grown : (table : List (Option Parts)) → IsGrownBy g first table → IsSolvedWith f pairs table
    grown table is = subst (λ (h : Equations). IsGrownBy h entry_state table) same (subst (λ (s : Parts). IsGrownBy g s table) first_is is)

    pub ticks : StateRanksAreSmall → EntryIsState → EdgesAreValid f → EdgesGrow f → (old new : ℕ) → IsCountedBy g first old new → new ≤ old + tick_limit f
    ticks small entry valid grow old new is =
        let at_f : IsCountedBy (f, pairs) entry_state old new = subst (λ (h : Equations). IsCountedBy h entry_state old new) same (subst (λ (s : Parts). IsCountedBy g s old new) first_is is) in
        counted f (f.size + 1) (height_limit f) old new refl refl (at_f (height_limit f) (heights small entry f valid grow pairs (f.size + 1) refl))

  pub seed : (table : List (Option Parts)) (waiting : List ℕ) → IsSeedWith f pairs table waiting → IsSeedBy g entry_state table waiting
  seed table waiting is = subst (λ (h : Equations). IsSeedBy h entry_state table waiting) (sym same) is

  pub has_seed : (table : List (Option Parts)) (waiting : List ℕ) → IsSeedWith f pairs table waiting → HasSeed state_below (IsValidState g.0.bounds) (edges_of g) (g.0.size + 1) table waiting
  has_seed table waiting is = record { start = 0; first = entry_state; seed = seed table waiting is }
