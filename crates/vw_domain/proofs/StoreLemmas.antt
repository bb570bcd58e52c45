-- Bytes of the frame are written: the state stays one, and its abstract form is that of the definition.
use Rattle.std.proofs.Common.{◌≡◌, ℕ, ◌^◌, ◌<◌, ◌⊎◌, List, refl, sym, ap, ◌∙◌, arith, Some, None, inl, inr, Bool, true, false, is_some}
use Rattle.std.proofs.lemmas.Int.{ints}
use Rattle.std.proofs.lemmas.Bool.Decides.{Decides-int_eq}
use Rattle.std.specs.Prelude.{ℤ, pos, ◌-ℤ◌, ◌≤ℤ◌, Option, ◌||◌, ◌==◌, if◌then◌else◌}
use Rattle.vw_lattice.specs.Entries.{value_at}
use Rattle.vw_values.specs.declared.value.Value.{Value}
use Rattle.vw_domain.specs.declared.parts.Parts.{Parts}
use Rattle.vw_domain.specs.State.{AreSlots, wide_key, narrow_key, key_of}
use Rattle.vw_domain.specs.Abstract.{abstract_of, slot_key, slot_size}
use Rattle.vw_domain.specs.Changes.{overlaps, is_lost}
use Rattle.vw_domain.specs.Stores.{is_overlapped}
use Rattle.vw_domain.proofs.SameLemmas.{one_test, not_true}
use Rattle.vw_domain.proofs.LossLemmas.{none_or_some}
use Rattle.vw_domain.proofs.LeaveLemmas.{true_or_false}

-- ---- the keys that are overlapped

wide_over : (c : ℤ) (n : ℕ) (o : ℤ) → is_overlapped c n (wide_key o) ≡ true → overlaps c n o 8 ≡ true
wide_over c n o h = grind (arith, ints, Decides-int_eq)

pub over_wide : (c : ℤ) (n : ℕ) (o : ℤ) → overlaps c n o 8 ≡ true → is_overlapped c n (wide_key o) ≡ true
over_wide c n o h = grind (arith, ints, Decides-int_eq)

narrow_over : (c : ℤ) (n : ℕ) (o : ℤ) → is_overlapped c n (narrow_key o) ≡ true → overlaps c n o 4 ≡ true
narrow_over c n o h = grind (arith, ints, Decides-int_eq)

over_narrow : (c : ℤ) (n : ℕ) (o : ℤ) → overlaps c n o 4 ≡ true → is_overlapped c n (narrow_key o) ≡ true
over_narrow c n o h = grind (arith, ints, Decides-int_eq)

pub wide_is : (c : ℤ) (n : ℕ) (o : ℤ) → is_overlapped c n (wide_key o) ≡ overlaps c n o 8
wide_is c n o = one_test (is_overlapped c n (wide_key o)) (overlaps c n o 8) (wide_over c n o) (over_wide c n o)

pub narrow_is : (c : ℤ) (n : ℕ) (o : ℤ) → is_overlapped c n (narrow_key o) ≡ overlaps c n o 4
narrow_is c n o = one_test (is_overlapped c n (narrow_key o)) (overlaps c n o 4) (narrow_over c n o) (over_narrow c n o)

pub over_here : (c : ℤ) (n m : ℕ) → 0 < n → 0 < m → overlaps c n c m ≡ true
over_here c n m some more = grind (arith, ints)

over_low : (c : ℤ) (n : ℕ) (key : ℤ) → is_overlapped c n key ≡ true → wide_key (c -ℤ pos 7) ≤ℤ key
over_low c n key h = grind (arith, ints, Decides-int_eq)

-- registers and the flags are not
low_apart : (c : ℤ) (low : (pos 0 -ℤ pos (2 ^ 32)) ≤ℤ c) (a : ℕ) → a < 257 → wide_key (c -ℤ pos 7) ≤ℤ key_of a → ⊥
low_apart c low a is from = omega (arith, ints)

pub low_kept : (c : ℤ) (n : ℕ) → (pos 0 -ℤ pos (2 ^ 32)) ≤ℤ c → (a : ℕ) → a < 257 → is_overlapped c n (key_of a) ≡ false
low_kept c n low a is = not_true (is_overlapped c n (key_of a)) (λ h. low_apart c low a is (over_low c n (key_of a) h))

-- ---- a slot stays or goes

-- the slots that are left, at one offset
pub record Left (s : Parts) (slots : List (ℤ × Value)) (c : ℤ) (n : ℕ) (o : ℤ) : Type 0 where
  pub narrow : value_at slots (narrow_key o) ≡ (if overlaps c n o 4 then None else value_at s.slots (narrow_key o))
  pub wide : value_at slots (wide_key o) ≡ (if overlaps c n o 8 then None else value_at s.slots (wide_key o))

pub record Stays (s : Parts) (slots : List (ℤ × Value)) (c : ℤ) (n : ℕ) (o : ℤ) : Type 0 where
  pub lost : is_lost (abstract_of s) c n o ≡ false
  pub key : ℤ
  pub value : Value
  pub old_key : slot_key s.slots o ≡ key
  pub new_key : slot_key slots o ≡ key
  pub old : value_at s.slots key ≡ Some value
  pub new : value_at slots key ≡ Some value
  pub size : slot_size slots o ≡ slot_size s.slots o
  pub kept : is_overlapped c n key ≡ false

pub record Goes (s : Parts) (slots : List (ℤ × Value)) (c : ℤ) (n : ℕ) (o : ℤ) : Type 0 where
  pub lost : is_lost (abstract_of s) c n o ≡ true
  pub size : slot_size slots o ≡ 0
  pub none : value_at slots (slot_key slots o) ≡ None

none_either : (b : Bool) (x : Option Value) → x ≡ None → (if b then None else x) ≡ None
none_either true x none = refl
none_either false x none = none

abbrev key_by : ℤ → Option Value → ℤ
key_by o x = if is_some x then narrow_key o else wide_key o

abbrev size_by : Option Value → Option Value → ℕ
size_by x y = if is_some x then 4 else (if is_some y then 8 else 0)

abbrev lost_by : ℤ → ℕ → ℤ → ℕ → Bool
lost_by c n o m = (m == 0) || overlaps c n o m

goes_with : (s : Parts) (slots : List (ℤ × Value)) (c : ℤ) (n : ℕ) (o : ℤ) → is_lost (abstract_of s) c n o ≡ true → value_at slots (narrow_key o) ≡ None → value_at slots (wide_key o) ≡ None → Goes s slots c n o
goes_with s slots c n o lost narrow wide = record {
  lost = lost;
  size = ap (λ (x : Option Value). size_by x (value_at slots (wide_key o))) narrow ∙ ap (λ (x : Option Value). size_by None x) wide;
  none = ap (λ (k : ℤ). value_at slots k) (ap (key_by o) narrow) ∙ wide;
}

module _ (s : Parts) (slots : List (ℤ × Value)) (c : ℤ) (n : ℕ) (o : ℤ) (are : AreSlots s.slots) (left : Left s slots c n o) where
  narrow_case : (v : Value) → value_at s.slots (narrow_key o) ≡ Some v → Stays s slots c n o ⊎ Goes s slots c n o
  narrow_case v found = elim (true_or_false (overlaps c n o 4)) [
    | inl over ↦ inr (goes_with s slots c n o
        (ap (lost_by c n o) size_old ∙ over)
        (left.narrow ∙ ap (λ (b : Bool). if b then None else value_at s.slots (narrow_key o)) over)
        (left.wide ∙ none_either (overlaps c n o 8) (value_at s.slots (wide_key o)) no_wide))
    | inr not ↦
        let now : value_at slots (narrow_key o) ≡ Some v = left.narrow ∙ ap (λ (b : Bool). if b then None else value_at s.slots (narrow_key o)) not ∙ found in
        inl (record {
          lost = ap (lost_by c n o) size_old ∙ not;
          key = narrow_key o;
          value = v;
          old_key = ap (key_by o) found;
          new_key = ap (key_by o) now;
          old = found;
          new = now;
          size = ap (λ (x : Option Value). size_by x (value_at slots (wide_key o))) now ∙ sym size_old;
          kept = narrow_is c n o ∙ not;
        })
  ]
    where
      size_old : slot_size s.slots o ≡ 4
      size_old = ap (λ (x : Option Value). size_by x (value_at s.slots (wide_key o))) found

      no_wide : value_at s.slots (wide_key o) ≡ None
      no_wide = elim (none_or_some (value_at s.slots (wide_key o))) [
        | inl none ↦ none
        | inr has ↦ absurd (are.apart o has (v, found))
      ]

  wide_case : (v : Value) → value_at s.slots (narrow_key o) ≡ None → value_at s.slots (wide_key o) ≡ Some v → Stays s slots c n o ⊎ Goes s slots c n o
  wide_case v none found = elim (true_or_false (overlaps c n o 8)) [
    | inl over ↦ inr (goes_with s slots c n o
        (ap (lost_by c n o) size_old ∙ over)
        no_narrow
        (left.wide ∙ ap (λ (b : Bool). if b then None else value_at s.slots (wide_key o)) over))
    | inr not ↦
        let now : value_at slots (wide_key o) ≡ Some v = left.wide ∙ ap (λ (b : Bool). if b then None else value_at s.slots (wide_key o)) not ∙ found in
        inl (record {
          lost = ap (lost_by c n o) size_old ∙ not;
          key = wide_key o;
          value = v;
          old_key = ap (key_by o) none;
          new_key = ap (key_by o) no_narrow;
          old = found;
          new = now;
          size = ap (λ (x : Option Value). size_by x (value_at slots (wide_key o))) no_narrow ∙ ap (λ (x : Option Value). size_by None x) now ∙ sym size_old;
          kept = wide_is c n o ∙ not;
        })
  ]
    where
      size_old : slot_size s.slots o ≡ 8
      size_old = ap (λ (x : Option Value). size_by x (value_at s.slots (wide_key o))) none ∙ ap (λ (x : Option Value). size_by None x) found

      no_narrow : value_at slots (narrow_key o) ≡ None
      no_narrow = left.narrow ∙ none_either (overlaps c n o 4) (value_at s.slots (narrow_key o)) none

  none_case : value_at s.slots (narrow_key o) ≡ None → value_at s.slots (wide_key o) ≡ None → Stays s slots c n o ⊎ Goes s slots c n o
  none_case narrow wide = inr (goes_with s slots c n o
      (ap (lost_by c n o) size_old)
      (left.narrow ∙ none_either (overlaps c n o 4) (value_at s.slots (narrow_key o)) narrow)
      (left.wide ∙ none_either (overlaps c n o 8) (value_at s.slots (wide_key o)) wide))
    where
      size_old : slot_size s.slots o ≡ 0
      size_old = ap (λ (x : Option Value). size_by x (value_at s.slots (wide_key o))) narrow ∙ ap (λ (x : Option Value). size_by None x) wide

  pub slot_case : Stays s slots c n o ⊎ Goes s slots c n o
  slot_case = elim (none_or_some (value_at s.slots (narrow_key o))) [
    | inr has ↦ narrow_case has.0 has.1
    | inl none ↦ elim (none_or_some (value_at s.slots (wide_key o))) [
      | inr has ↦ wide_case has.0 none has.1
      | inl nothing ↦ none_case none nothing
    ]
  ]
