-- The abstract form of each state is the form of a state.
use Rattle.std.proofs.Common.{◌≡◌, ◌≢◌, ℕ, ◌^◌, ◌≤◌, List, refl, sym, ap, subst, ◌∙◌, arith, inl, inr}
use Rattle.std.specs.Prelude.{Option, Some, None, true, false, is_some, ℤ}
use Rattle.std.proofs.lemmas.Int.{ints}
use Rattle.std.proofs.lemmas.Bool.{ltb-true, false≢true}
use Rattle.vw_lattice.specs.Entries.{value_at}
use Rattle.vw_names.specs.declared.spot.Spot.{Spot}
use Rattle.vw_names.specs.declared.spot.Spot.TheVariants.{Reg, Flags, Slot}
use Rattle.vw_values.specs.declared.value.Value.{Value}
use Rattle.vw_values.specs.declared.value.Value.TheVariants.{Any}
use Rattle.vw_values.specs.Values.{IsValid}
use Rattle.vw_domain.specs.declared.parts.Parts.{Parts}
use Rattle.vw_domain.specs.declared.registers.Register.{Register}
use Rattle.vw_domain.specs.Registers.{IsWithin, register_at, unknown_register}
use Rattle.vw_domain.specs.State.{wide_key, narrow_key, IsNarrow, IsState, Fits}
use Rattle.vw_domain.specs.Abstract.{abstract_of, slot_key, slot_size, value_or_any, value_of, is_there, is_same}
use Rattle.vw_domain.specs.FormRanges.{SlotFits, IsStateForm}
use Rattle.vw_domain.specs.FormLaws
use Rattle.vw_domain.proofs.FormOrder.{there_or_none, size_by, key_by}
use Rattle.vw_domain.proofs.RowLemmas.{unknown_at}
use Rattle.vw_domain.proofs.SameLemmas.{same_cases, same_here, same_together}

module _ (bounds : List ℕ) (s : Parts) (is : IsState s) (fits : Fits bounds s) where
  -- ---- slots

  -- the slot at an offset: of four bytes, of eight, or none
  data SlotCase (o : ℤ) : Type 0 where
    narrow : (v : Value) → value_at s.slots (narrow_key o) ≡ Some v → slot_size s.slots o ≡ 4 → value_of s (Slot o) ≡ v → SlotCase o
    wide : (v : Value) → value_at s.slots (wide_key o) ≡ Some v → slot_size s.slots o ≡ 8 → value_of s (Slot o) ≡ v → SlotCase o
    none : is_there s (Slot o) ≡ false → slot_size s.slots o ≡ 0 → value_of s (Slot o) ≡ Any → SlotCase o

  found_at : (o key : ℤ) (x : Option Value) → slot_key s.slots o ≡ key → value_at s.slots key ≡ x → value_at s.slots (slot_key s.slots o) ≡ x
  found_at o key x at found = ap (λ (k : ℤ). value_at s.slots k) at ∙ found

  slot_case : (o : ℤ) → SlotCase o
  slot_case o = elim (there_or_none (value_at s.slots (narrow_key o))) [
    | inl n ↦ narrow n.0 n.1 (size_by s.slots o (Some n.0) (value_at s.slots (wide_key o)) n.1 refl)
        (ap value_or_any (found_at o (narrow_key o) (Some n.0) (key_by s.slots o (Some n.0) n.1) n.1))
    | inr no_narrow ↦ elim (there_or_none (value_at s.slots (wide_key o))) [
      | inl w ↦ wide w.0 w.1 (size_by s.slots o None (Some w.0) no_narrow w.1)
          (ap value_or_any (found_at o (wide_key o) (Some w.0) (key_by s.slots o None no_narrow) w.1))
      | inr no_wide ↦
          let found = found_at o (wide_key o) None (key_by s.slots o None no_narrow) no_wide in
          none (ap is_some found) (size_by s.slots o None None no_narrow no_wide) (ap value_or_any found)
    ]
  ]

  slot_valid : (o : ℤ) → SlotCase o → IsValid bounds (value_of s (Slot o))
  slot_valid o (narrow v found size value) = subst (λ (x : Value). IsValid bounds x) (sym value) (is.slots.values (narrow_key o) v found, fits.slots (narrow_key o) v found)
  slot_valid o (wide v found size value) = subst (λ (x : Value). IsValid bounds x) (sym value) (is.slots.values (wide_key o) v found, fits.slots (wide_key o) v found)
  slot_valid o (none missing size value) = subst (λ (x : Value). IsValid bounds x) (sym value) (tt, tt)

  slot_fits : (o : ℤ) → SlotCase o → SlotFits (slot_size s.slots o) (value_of s (Slot o))
  slot_fits o (narrow v found size value) =
      inr (inr (size, subst (λ (x : Value). IsNarrow x) (sym value) (is.slots.narrow o v found)))
  slot_fits o (wide v found size value) = inr (inl size)
  slot_fits o (none missing size value) = inl (size, value)

  slot_within : (o : ℤ) → SlotCase o → slot_size s.slots o ≢ 0 → IsWithin (2 ^ 32) o
  slot_within o (narrow v found size value) there = let w = is.slots.within (narrow_key o) (v, found) in let a = w.0 in let b = w.1 in (omega (arith, ints), omega (arith, ints))
  slot_within o (wide v found size value) there = let w = is.slots.within (wide_key o) (v, found) in let a = w.0 in let b = w.1 in (omega (arith, ints), omega (arith, ints))
  slot_within o (none missing size value) there = absurd (there size)

  slot_there : (o : ℤ) → SlotCase o → slot_size s.slots o ≡ 0 → is_there s (Slot o) ≡ true → ⊥
  slot_there o (narrow v found size value) zero there = omega arith
  slot_there o (wide v found size value) zero there = omega arith
  slot_there o (none missing size value) zero there = false≢true (sym missing ∙ there)

  valid_at : (p : Spot) → IsValid bounds (value_of s p)
  valid_at (Reg r) = ((is.registers.registers r).value, fits.registers r)
  valid_at Flags = (tt, tt)
  valid_at (Slot o) = slot_valid o (slot_case o)

  -- ---- classes

  symmetric : (p q : Spot) → is_same s p q ≡ true → is_same s q p ≡ true
  symmetric p q h = elim (same_cases s p q h) [
    | inl same ↦ same_here s q p (sym same)
    | inr t ↦ same_together s q p (record { first = t.second; second = t.first; roots = sym t.roots })
  ]

  transitive : (p q t : Spot) → is_same s p q ≡ true → is_same s q t ≡ true → is_same s p t ≡ true
  transitive p q t h k = elim (same_cases s p q h) [
    | inl same ↦ let P : Spot → Type 0 = λ x. is_same s x t ≡ true in subst P (sym same) k
    | inr a ↦ elim (same_cases s q t k) [
      | inl same ↦ let P : Spot → Type 0 = λ x. is_same s p x ≡ true in subst P same h
      | inr b ↦ same_together s p t (record { first = a.first; second = b.second; roots = a.roots ∙ b.roots })
    ]
  ]

  -- a place that is not there is alone
  alone : (p q : Spot) → (is_there s p ≡ true → ⊥) → is_same s p q ≡ true → q ≡ p
  alone p q not_there h = elim (same_cases s p q h) [
    | inl same ↦ sym same
    | inr t ↦ absurd (not_there t.first)
  ]

  behind : (r : ℕ) → 17 ≤ r → register_at s.registers r ≡ unknown_register
  behind r far = let size = is.registers.seventeen in unknown_at s.registers r (omega arith)

  pub form : IsStateForm bounds (abstract_of s)
  form = record {
    form = record {
      values = λ p. (valid_at p).0;
      among = λ p. (valid_at p).1;
      offsets = λ r. (is.registers.registers r).offset;
      slots = λ o. slot_fits o (slot_case o);
      fact = is.fact;
      written = λ o e. (is.frame o e).1;
      itself = λ p. same_here s p p refl;
      alone_left = λ p o zero h. alone (Slot o) p (slot_there o (slot_case o) zero) h;
      alone_right = λ p o zero h. alone (Slot o) p (slot_there o (slot_case o) zero) (symmetric p (Slot o) h);
    };
    probed = is.probed;
    frame = λ o e. (is.frame o e).0;
    slots = λ o there. slot_within o (slot_case o) there;
    compared = refl;
    registers = λ r far. record {
      offset = ap (λ (x : Register). x.offset) (behind r far);
      value = ap (λ (x : Register). x.value) (behind r far);
      alone = λ p h. alone (Reg r) p (λ there. let low = ltb-true r 17 there in omega arith) h;
    };
    symmetric = symmetric;
    transitive = transitive;
  }

pub states_have_forms : FormLaws.StatesHaveForms
states_have_forms bounds s valid = form bounds s valid.state valid.fits
