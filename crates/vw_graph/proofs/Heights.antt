-- How often a state of a function can rise while its equations are solved, and the steps that this costs.
use Rattle.std.proofs.Common.{◌≡◌, ℕ, zero, suc, ◌+◌, ◌*◌, ◌≤◌, max, List, length, refl, arith, subst}
use Rattle.vw_locals.specs.Ranges.{bytes}
use Rattle.vw_locals.specs.RangeOrder.{ranked}
use Rattle.vw_solver.specs.Solution.{weights_from}
use Rattle.vw_solver.specs.Standing.{RanksAtMost}
use Rattle.vw_domain.specs.declared.parts.Parts.{Parts}
use Rattle.vw_domain.specs.FormLaws.{EntryIsState}
use Rattle.vw_domain.specs.Ranks.{StateRanksAreSmall}
use Rattle.vw_domain.specs.State.{IsValidState, state_below, entry_state, state_rank}
use Rattle.vw_state.specs.Context.{Context}
use Rattle.vw_state.specs.Laws.{EdgesAreValid, EdgesGrow, depth_limit, height_limit, tick_limit}
use Rattle.vw_state.specs.Post.{edges_with}
use Rattle.vw_graph.proofs.Counting.{fewer_slots, few_classes}
use Rattle.vw_graph.proofs.StandingLemmas.{Keeps, Grows, standing_good, standing_size}

within_max : (old limit new : ℕ) → new ≤ max old limit → old ≤ limit → new ≤ limit
within_max old limit new le under = omega (arith, le, under)

module _ (small : StateRanksAreSmall) (entry : EntryIsState) (f : Context) (valid : EdgesAreValid f) (grow : EdgesGrow f) (pairs : List (ℕ × ℕ)) (points : ℕ) (size : points ≡ f.size + 1) where
  abbrev EdgesOf : ℕ → Parts → List (ℕ × Parts)
  EdgesOf at state = edges_with f pairs at state

  abbrev IsValid : Parts → Type 0
  IsValid = IsValidState f.bounds

  -- valid, and no deeper than a function of the module may find the stack probed
  abbrev IsGood : ℕ → Parts → Type 0
  IsGood at state = IsValid state × (state.probed ≤ depth_limit f)

  keeps : Keeps state_below IsValid IsGood EdgesOf points 0 entry_state
  keeps = record {
    first_good = (entry f.bounds, omega arith);
    edge_good = λ at state inside good k d less. (valid pairs at state good.0 k d less, within_max state.probed (depth_limit f) _ ((grow pairs at state good.0 k d less).probed) good.1);
    join_good = λ at x y join good_x good_y is. let above = is.above_left.probed in (is.valid, omega (arith, above, good_x.1));
  }

  slots_grow : Grows state_below IsValid IsGood (λ s. length s.slots) 1 EdgesOf
  slots_grow = record {
    adds = λ at state good k d less. (grow pairs at state good.0 k d less).slots;
    falls = λ at x y join good_x good_y is. fewer_slots x.slots join.slots good_x.0.state.slots is.valid.state.slots is.above_left.slots;
  }

  written_grows : Grows state_below IsValid IsGood (λ s. bytes s.written) 16 EdgesOf
  written_grows = record {
    adds = λ at state good k d less. (grow pairs at state good.0 k d less).written;
    falls = λ at x y join good_x good_y is. (ranked join.written x.written good_x.0.state.ranges is.valid.state.ranges is.above_left.written).0;
  }

  pub heights : RanksAtMost state_below IsValid EdgesOf points 0 entry_state (state_rank f.bounds) (height_limit f)
  heights = λ at state stands.
      let good = standing_good state_below IsValid IsGood EdgesOf points 0 entry_state keeps at state stands in
      let slots = standing_size state_below IsValid IsGood EdgesOf points 0 entry_state keeps (λ s. length s.slots) 1 slots_grow at state stands in
      let written = standing_size state_below IsValid IsGood EdgesOf points 0 entry_state keeps (λ s. bytes s.written) 16 written_grows at state stands in
      small f.bounds state (depth_limit f) (f.size + 1) good.0.state good.1
      (record {
        some = omega arith;
        slots = omega (arith, slots, size);
        written = omega (arith, written, size);
        classes = few_classes state.slots good.0.state.slots state.classes good.0.state.classes good.0.state.named;
      })

-- ---- steps

ones : (from n : ℕ) → weights_from (λ at. 1) from n ≡ n
ones from zero = refl
ones from (suc n) = let rest = ones (suc from) n in omega (arith, rest)

pub counted : (f : Context) (points most old new : ℕ) → points ≡ f.size + 1 → most ≡ height_limit f → new ≤ old + weights_from (λ at. 1) 0 points * (most + 1) → new ≤ old + tick_limit f
counted f points most old new size is le =
    subst (λ (n : ℕ). new ≤ old + n * (height_limit f + 1)) size (subst (λ (n : ℕ). new ≤ old + n * (height_limit f + 1)) (ones 0 points) (subst (λ (m : ℕ). new ≤ old + weights_from (λ at. 1) 0 points * (m + 1)) is le))
