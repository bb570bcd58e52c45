-- Sets of tables by registers, to which tags are added.
use Rattle.std.proofs.Common.{◌≡◌, ◌≢◌, ℕ, zero, suc, ◌+◌, ◌*◌, ◌%◌, ◌^◌, ◌<◌, List, get_or, take, refl, sym, ap, subst, ◌∙◌, Some, inl, inr, Bool, true, false, ◌||◌, ◌==◌, nat_eq, bit_or, w64, add-one}
use Rattle.std.proofs.lemmas.Bool.{eqb-true, eq-eqb}
use Rattle.std.proofs.lemmas.List.Folds.{list_any_more}
use Rattle.std.proofs.lemmas.Nat.Bits.{bit_at_set_same, bit_at_set_other, bit_at-zero}
use Rattle.std.specs.List.{list_any}
use Rattle.std.specs.Prelude.{ℤ, slice_get, replicate}
use Rattle.vw_lattice.specs.EntryOrder.{value_at_index}
use Rattle.vw_values.specs.declared.value.Value.{Value}
use Rattle.vw_values.specs.Values.{IsValue}
use Rattle.vw_domain.specs.State.{AreSlots}
use Rattle.vw_domain.specs.Refines.{is_in, is_told, any_below}
use Rattle.vw_domain.proofs.LeaveLemmas.{true_or_false}
use Rattle.vw_domain.proofs.Lowers.{true_not_false, or_second}
use Rattle.vw_domain.proofs.SlotLemmas.{entry_at}

or_false : (b : Bool) → (b || false) ≡ b
or_false true = refl
or_false false = refl

or_grouped : (a b c : Bool) → ((a || b) || c) ≡ (a || (b || c))
or_grouped true b c = refl
or_grouped false b c = refl

-- a bit is set
pub set_bit : (n k t : ℕ) → k < 64 → is_in (bit_or n (1 * 2 ^ k % 2 ^ 64)) t ≡ (is_in n t || (k == t))
set_bit n k t within = elim (true_or_false (k == t)) [
  | inl same ↦
      subst (λ (u : ℕ). is_in (bit_or n (1 * 2 ^ k % 2 ^ 64)) u ≡ true) (eqb-true k t same) (ap (λ (x : ℕ). nat_eq x 1) (bit_at_set_same w64 n k within))
      ∙ sym (or_second (is_in n t) (k == t) same)
  | inr other ↦
      let apart : t ≢ k = λ e. true_not_false (sym (eq-eqb k t (sym e)) ∙ other) in
      ap (λ (x : ℕ). nat_eq x 1) (bit_at_set_other w64 n k within t apart)
      ∙ sym (ap (λ (b : Bool). is_in n t || b) other ∙ or_false (is_in n t))
]

-- no table is in the sets that are empty
alike : (z n r : ℕ) → get_or (replicate n z) r z ≡ z
alike z zero r = refl
alike z (suc n) zero = refl
alike z (suc n) (suc r) = alike z n r

pub none_told : (r t : ℕ) → is_told (replicate 16 0) r t ≡ false
none_told r t = ap (λ (x : ℕ). is_in x t) (alike 0 16 r) ∙ ap (λ (x : ℕ). nat_eq x 1) (bit_at-zero t)

-- one more register
pub row_step : (new now before : Bool) (f : ℕ → Bool) (i : ℕ) → now ≡ (before || any_below f i) → new ≡ (now || f i) → new ≡ (before || any_below f (i + 1))
row_step new now before f i so_far more =
    more ∙ ap (λ (b : Bool). b || f i) so_far ∙ or_grouped before (any_below f i) (f i)
    ∙ ap (λ (n : ℕ). before || any_below f n) (sym (add-one i))

-- one more slot
pub slot_step : (new now before : Bool) (p : ℤ × Value → Bool) (slots : List (ℤ × Value)) (i : ℕ) (entry : ℤ × Value) → slice_get slots i ≡ Some entry → now ≡ (before || list_any p (take i slots)) → new ≡ (now || p entry) → new ≡ (before || list_any p (take (i + 1) slots))
slot_step new now before p slots i entry found so_far more =
    let at = entry_at slots i entry found in
    more ∙ ap (λ (b : Bool). b || p entry) so_far ∙ or_grouped before (list_any p (take i slots)) (p entry)
    ∙ ap (λ (e : ℤ × Value). before || (list_any p (take i slots) || p e)) (sym (at.is entry))
    ∙ ap (λ (b : Bool). before || b) (sym (list_any_more p slots i entry at.within))

pub entry_value : (slots : List (ℤ × Value)) (i : ℕ) (key : ℤ) (v : Value) → AreSlots slots → slice_get slots i ≡ Some (key, v) → IsValue v
entry_value slots i key v are found =
    let e = entry_at slots i (key, v) found in
    let P : ℤ × Value → Type 0 = λ x. IsValue x.1 in
    subst P (e.is (key, v)) (are.values (get_or slots i (key, v)).0 (get_or slots i (key, v)).1 (value_at_index slots i (key, v) are.ascending e.within))
