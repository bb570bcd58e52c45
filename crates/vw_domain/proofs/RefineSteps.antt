-- Values that are changed one by one.
use Rattle.std.proofs.Common.{◌≡◌, ◌≢◌, ℕ, ◌+◌, ◌<◌, ◌≤◌, List, length, get_or, sym, ap, subst, ◌∙◌, arith, below_more, Some, Bool, true, ◌&&◌, get_or-set_other, get_or-set_same}
use Rattle.std.proofs.Math.ListN.{set}
use Rattle.std.specs.Prelude.{ℤ, ◌↔◌, slice_get}
use Rattle.vw_lattice.specs.Entries.{IsAscending}
use Rattle.vw_lattice.specs.EntryOrder.{value_at_index, index_of}
use Rattle.vw_names.specs.Spot.{slot_number}
use Rattle.vw_values.specs.declared.value.Value.{Value}
use Rattle.vw_domain.specs.declared.registers.Register.{Register}
use Rattle.vw_domain.specs.Registers.{register_at, unknown_register}
use Rattle.vw_domain.specs.Refines.{with_value_by, EachSlot}
use Rattle.vw_domain.proofs.Lowers.{and_both, both_and}
use Rattle.vw_domain.proofs.SlotLemmas.{entry_at}
use Rattle.vw_domain.proofs.Updates.{updated, updated_ascending, updated_values}

-- one more test
pub edge_step : (all now more : Bool) (P : ℕ → Bool) (i : ℕ) → (all ≡ true) ↔ ((r : ℕ) → r < i → P r ≡ true) → now ≡ P i → more ≡ (all && now) → (more ≡ true) ↔ ((r : ℕ) → r < i + 1 → P r ≡ true)
edge_step all now more P i so_far is more_is = (
  λ told.
      let parts = and_both all now (sym more_is ∙ told) in
      below_more (λ (r : ℕ). P r ≡ true) i (so_far.0 parts.0) (sym is ∙ parts.1),
  λ each. more_is ∙ both_and all now (so_far.1 (λ r h. each r (omega arith))) (is ∙ each i (omega arith)),
)

-- the same of entries
pub slot_edge_step : (all now more : Bool) (P : ℤ × Value → Bool) (entries : List (ℤ × Value)) (i : ℕ) (entry : ℤ × Value) → slice_get entries i ≡ Some entry → (all ≡ true) ↔ ((d : ℤ × Value) (k : ℕ) → k < i → P (get_or entries k d) ≡ true) → now ≡ P entry → more ≡ (all && now) → (more ≡ true) ↔ ((d : ℤ × Value) (k : ℕ) → k < i + 1 → P (get_or entries k d) ≡ true)
slot_edge_step all now more P entries i entry found so_far is more_is =
    let at = entry_at entries i entry found in (
      λ told.
          let parts = and_both all now (sym more_is ∙ told) in
          λ d. below_more (λ (k : ℕ). P (get_or entries k d) ≡ true) i (so_far.0 parts.0 d) (ap P (at.is d) ∙ sym is ∙ parts.1),
      λ each. more_is ∙ both_and all now (so_far.1 (λ d k h. each d k (omega arith))) (is ∙ sym (ap P (at.is entry)) ∙ each entry i (omega arith)),
    )

module _ (g : ℕ → Value → Value) (test : ℕ → Value → Bool) where
  -- a register whose value is changed
  pub register_step : (i : ℕ) (row old : List Register) (v : Register) → i < length row → ((r : ℕ) → r < i → register_at row r ≡ with_value_by g r (register_at old r)) → ((r : ℕ) → i ≤ r → register_at row r ≡ register_at old r) → v ≡ with_value_by g i (register_at row i) → (r : ℕ) → r < i + 1 → register_at (set row i v) r ≡ with_value_by g r (register_at old r)
  register_step i row old v within front rest is =
      below_more _ _
      (λ r h. let other : r ≢ i = omega arith in rw get_or-set_other (front r h))
      (get_or-set_same row i v unknown_register within ∙ is ∙ ap (with_value_by g i) (rest i (omega arith)))

  abbrev pub slot_changed : ℤ → Value → Value
  slot_changed key = g (slot_number key)

  abbrev pub slot_passes : ℤ × Value → Bool
  slot_passes entry = test (slot_number entry.0) entry.1

  -- all slots
  pub slots_changed : (old new : List (ℤ × Value)) (n : ℕ) (all : Bool) → IsAscending old → length old ≤ n → n ≤ length old → new ≡ updated slot_changed n old → (all ≡ true) ↔ ((d : ℤ × Value) (k : ℕ) → k < n → slot_passes (get_or old k d) ≡ true) → EachSlot g test old new all
  slots_changed old new n all ascends enough within is edge =
      let P : List (ℤ × Value) → Type 0 = λ es. EachSlot g test old es all in
      subst P (sym is) (record {
        ascending = updated_ascending slot_changed n old ascends;
        values = λ key. updated_values slot_changed n old key enough;
        edge = (
          λ told key v found.
              let at = index_of old key v found in
              let Q : ℤ → Value → Type 0 = λ k w. test (slot_number k) w ≡ true in
              let first : Q (get_or old at.0 (key, v)).0 (get_or old at.0 (key, v)).1 = edge.0 told (key, v) at.0 (omega arith) in
              subst (λ (w : Value). Q key w) (at.2 (key, v)).1 (subst (λ (k : ℤ). Q k (get_or old at.0 (key, v)).1) (at.2 (key, v)).0 first),
          λ each. edge.1 (λ d k h. each (get_or old k d).0 (get_or old k d).1 (value_at_index old k d ascends (omega arith))),
        );
      })
