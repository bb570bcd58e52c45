-- The values of a map, changed one by one in the order of the keys.
use Rattle.std.proofs.Common.{◌≡◌, ℕ, zero, suc, ◌≤◌, List, [], ◌∷◌, length, get_or, refl, sym, ap, subst, ◌∙◌, arith, Some, inl, inr}
use Rattle.std.specs.Prelude.{ℤ, slice_get}
use Rattle.std.specs.Option.{option_map}
use Rattle.vw_lattice.specs.Entries.{IsAscending, value_at, with_value}
use Rattle.vw_lattice.specs.EntryOrder.{value_at_here, value_at_there, same_or_not, ascending_by_keys}

-- the first n values are changed
abbrev pub updated : {V : Type 0} → (ℤ → V → V) → ℕ → List (ℤ × V) → List (ℤ × V)
updated f zero entries = entries
updated f (suc n) [] = []
updated f (suc n) (entry ∷ rest) = (entry.0, f entry.0 entry.1) ∷ updated f n rest

module _ {V : Type 0} (f : ℤ → V → V) where
  pub updated_length : (n : ℕ) (entries : List (ℤ × V)) → length (updated f n entries) ≡ length entries
  updated_length zero entries = refl
  updated_length (suc n) [] = refl
  updated_length (suc n) (entry ∷ rest) = let same = updated_length n rest in omega arith

  -- the next entry is as it was
  pub updated_next : (n : ℕ) (entries : List (ℤ × V)) → slice_get (updated f n entries) n ≡ slice_get entries n
  updated_next zero entries = refl
  updated_next (suc n) [] = refl
  updated_next (suc n) (entry ∷ rest) = updated_next n rest

  pub updated_step : (n : ℕ) (entries : List (ℤ × V)) (key : ℤ) (value : V) → slice_get entries n ≡ Some (key, value) → with_value (updated f n entries) n (f key value) ≡ updated f (suc n) entries
  updated_step zero [] key value found = absurd (cc)
  updated_step zero (entry ∷ rest) key value found =
      let same : entry ≡ (key, value) = cc in
      let Q : ℤ × V → Type 0 = λ e. (entry.0, f e.0 e.1) ∷ rest ≡ (entry.0, f entry.0 entry.1) ∷ rest in
      subst Q same refl
  updated_step (suc n) [] key value found = absurd (cc)
  updated_step (suc n) (entry ∷ rest) key value found =
      ap (λ (es : List (ℤ × V)). (entry.0, f entry.0 entry.1) ∷ es) (updated_step n rest key value found)

  pub updated_keys : (n : ℕ) (entries : List (ℤ × V)) (k : ℕ) (d : ℤ × V) → (get_or (updated f n entries) k d).0 ≡ (get_or entries k d).0
  updated_keys zero entries k d = refl
  updated_keys (suc n) [] k d = refl
  updated_keys (suc n) (entry ∷ rest) zero d = refl
  updated_keys (suc n) (entry ∷ rest) (suc k) d = updated_keys n rest k d

  pub updated_ascending : (n : ℕ) (entries : List (ℤ × V)) → IsAscending entries → IsAscending (updated f n entries)
  updated_ascending n entries ascends = ascending_by_keys entries (updated f n entries) (updated_length n entries) (λ k d within. updated_keys n entries k d) ascends

  -- where all are changed, each key has its changed value
  pub updated_values : (n : ℕ) (entries : List (ℤ × V)) (key : ℤ) → length entries ≤ n → value_at (updated f n entries) key ≡ option_map (f key) (value_at entries key)
  updated_values zero [] key all = refl
  updated_values zero (entry ∷ rest) key all = absurd (omega arith)
  updated_values (suc n) [] key all = refl
  updated_values (suc n) (entry ∷ rest) key all = elim (same_or_not entry.0 key) [
    | inl same ↦
        value_at_here (entry.0, f entry.0 entry.1) (updated f n rest) key same
        ∙ ap (λ (k : ℤ). Some (f k entry.1)) same
        ∙ sym (ap (option_map (f key)) (value_at_here entry rest key same))
    | inr apart ↦
        value_at_there (entry.0, f entry.0 entry.1) (updated f n rest) key apart
        ∙ updated_values n rest key (omega arith)
        ∙ sym (ap (option_map (f key)) (value_at_there entry rest key apart))
  ]
