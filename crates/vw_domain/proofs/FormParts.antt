-- The state of an abstract form: its parts, and that they give the form again.
use Rattle.std.proofs.Common.{◌≡◌, ◌≢◌, ℕ, ◌+◌, ◌^◌, ◌<◌, ◌≤◌, ◌⊎◌, inl, inr, List, ◌==◌, refl, sym, ap, ◌∙◌, subst, arith, eq-eqb}
use Rattle.std.specs.Prelude.{Option, Some, None, Bool, true, false, ◌&&◌, if◌then◌else◌, is_some, nat_lt, ℤ, pos, negsuc, ◌-ℤ◌, ◌≤ℤ◌}
use Rattle.std.specs.Option.{option_map}
use Rattle.std.proofs.lemmas.Int.{ints, by_lt_z}
use Rattle.std.specs.Ordering.{int_eq}
use Rattle.std.proofs.lemmas.Bool.{eqb-true, ltb-true, lt-ltb, cases_lt, false≢true}
use Rattle.std.proofs.lemmas.Bool.Decides.{Decides-int_eq}
use Rattle.vw_lattice.specs.Entries.{value_at}
use Rattle.vw_locals.specs.Ranges.{is_written}
use Rattle.vw_names.specs.declared.spot.Spot.{Spot}
use Rattle.vw_names.specs.declared.spot.Spot.TheVariants.{Reg, Flags, Slot}
use Rattle.vw_names.specs.Division.{Same}
use Rattle.vw_names.specs.Spot.{slot_number}
use Rattle.vw_values.specs.declared.value.Value.{Value}
use Rattle.vw_values.specs.declared.value.Value.TheVariants.{Any}
use Rattle.vw_values.specs.Values.{IsValue, IsAmong}
use Rattle.vw_domain.specs.declared.parts.Parts.{Parts}
use Rattle.vw_domain.specs.declared.registers.Register.{Register}
use Rattle.vw_domain.specs.Registers.{IsRegister, register_at, unknown_register}
use Rattle.vw_domain.specs.State.{wide_key, narrow_key, key_of, IsNarrow, IsThere, IsState, AreSlots, Fits, IsValidState}
use Rattle.vw_domain.specs.Abstract.{Abstract, abstract_of, slot_key, slot_size, value_or_any, value_of, is_there, class_number, is_same}
use Rattle.vw_domain.specs.FormRanges.{SlotFits, IsStateForm}
use Rattle.vw_domain.specs.FormLaws
use Rattle.vw_domain.proofs.FormOrder.{size_by, key_by}
use Rattle.vw_domain.specs.StateOf.{half, has_key, slot_under, entry_at, place_at, are_same, together, register_of, registers_of, written_of, slots_of, classes_of, state_of}
use Rattle.vw_domain.proofs.Listings.{IsRowOf, row_is, IsMapOf, map_is, AreRangesOf, ranges_are, IsParted, parted}
use Rattle.vw_domain.proofs.Lowers.{and_both, both_and, or_cases, or_first, or_second}
use Rattle.vw_domain.proofs.RowLemmas.{unknown_at}
use Rattle.vw_domain.proofs.SameLemmas.{one_test, same_cases, same_here, same_together}
use Rattle.vw_domain.proofs.WriteLemmas.{form_same}

-- ---- numbers of slots

number_far : (z : ℤ) → (pos 0 -ℤ pos (2 ^ 34)) ≤ℤ z → 256 < slot_number z
number_far (pos n) low = omega arith
number_far (negsuc n) low = omega (arith, ints)

key_back : (z : ℤ) → (pos 0 -ℤ pos (2 ^ 34)) ≤ℤ z → key_of (slot_number z) ≡ z
key_back (pos n) low = omega (arith, ints)
key_back (negsuc n) low = omega (arith, ints)

some_offset : (a b : ℤ) → Some a ≡ Some b → a ≡ b
some_offset a b e = cc

some_spot : (p q : Spot) → Some p ≡ Some q → p ≡ q
some_spot p q e = cc

half_wide : (z o : ℤ) → z ≡ wide_key o → half z ≡ o
half_wide (pos n) o e = omega (arith, ints)
half_wide (negsuc n) o e = omega (arith, ints)

half_narrow : (z o : ℤ) → z ≡ narrow_key o → half z ≡ o
half_narrow (pos n) o e = omega (arith, ints)
half_narrow (negsuc n) o e = omega (arith, ints)

module _ (bounds : List ℕ) (f : Abstract) (valid : IsStateForm bounds f) where
  -- ---- slots by keys

  -- the slot at an offset has this key
  data IsSlotKey (z o : ℤ) : Type 0 where
    wide : z ≡ wide_key o → f.sizes o ≡ 8 → IsSlotKey z o
    narrow : z ≡ narrow_key o → f.sizes o ≡ 4 → IsSlotKey z o

  one_wide : (o q : ℤ) → wide_key o ≡ wide_key q → q ≡ o
  one_wide o q e = omega (arith, ints)

  one_narrow : (o q : ℤ) → narrow_key o ≡ narrow_key q → q ≡ o
  one_narrow o q e = omega (arith, ints)

  not_both : (o q : ℤ) → wide_key o ≡ narrow_key q → ⊥
  not_both o q e = omega (arith, ints)

  half_is : (z o : ℤ) → IsSlotKey z o → half z ≡ o
  half_is z o (wide k size) = half_wide z o k
  half_is z o (narrow k size) = half_narrow z o k

  keyed : (z o : ℤ) → IsSlotKey z o → has_key f z o ≡ true
  keyed z o (wide k size) = or_first (int_eq z (wide_key o) && (f.sizes o == 8)) (int_eq z (narrow_key o) && (f.sizes o == 4)) (both_and (int_eq z (wide_key o)) (f.sizes o == 8) ((Decides-int_eq z (wide_key o)).1 k) (eq-eqb (f.sizes o) 8 size))
  keyed z o (narrow k size) = or_second (int_eq z (wide_key o) && (f.sizes o == 8)) (int_eq z (narrow_key o) && (f.sizes o == 4)) (both_and (int_eq z (narrow_key o)) (f.sizes o == 4) ((Decides-int_eq z (narrow_key o)).1 k) (eq-eqb (f.sizes o) 4 size))

  slot_key_by : (z o : ℤ) → has_key f z o ≡ true → IsSlotKey z o
  slot_key_by z o h = elim (or_cases (int_eq z (wide_key o) && (f.sizes o == 8)) (int_eq z (narrow_key o) && (f.sizes o == 4)) h) [
    | inl first ↦ let both = and_both (int_eq z (wide_key o)) (f.sizes o == 8) first in wide ((Decides-int_eq z (wide_key o)).0 both.0) (eqb-true (f.sizes o) 8 both.1)
    | inr second ↦ let both = and_both (int_eq z (narrow_key o)) (f.sizes o == 4) second in narrow ((Decides-int_eq z (narrow_key o)).0 both.0) (eqb-true (f.sizes o) 4 both.1)
  ]

  under : (z o : ℤ) → IsSlotKey z o → slot_under f z ≡ Some o
  unfolding slot_under
  under z o is =
      let P : ℤ → Type 0 = λ h. (if has_key f z h then Some h else None) ≡ Some o in
      subst P (sym (half_is z o is)) (ap (λ (b : Bool). if b then Some o else None) (keyed z o is))

  back_by : (z h o : ℤ) (b : Bool) → has_key f z h ≡ b → (if b then Some h else None) ≡ Some o → IsSlotKey z o
  back_by z h o true is found = let P : ℤ → Type 0 = λ x. IsSlotKey z x in subst P (some_offset h o found) (slot_key_by z h is)
  back_by z h o false is found = absurd (cc)

  back : (z o : ℤ) → slot_under f z ≡ Some o → IsSlotKey z o
  unfolding slot_under
  back z o found = back_by z (half z) o (has_key f z (half z)) refl found

  key_within : (z o : ℤ) → IsSlotKey z o → ((pos 0 -ℤ pos (2 ^ 33)) ≤ℤ z) × (z ≤ℤ pos (2 ^ 33 + 1))
  key_within z o (wide k size) = let near = valid.slots o (λ e. omega arith) in let a = near.0 in let b = near.1 in (omega (arith, ints), omega (arith, ints))
  key_within z o (narrow k size) = let near = valid.slots o (λ e. omega arith) in let a = near.0 in let b = near.1 in (omega (arith, ints), omega (arith, ints))

  no_under : (z : ℤ) → ((o : ℤ) → IsSlotKey z o → ⊥) → slot_under f z ≡ None
  no_under z never = go (slot_under f z) refl
    where
      go : (x : Option ℤ) → slot_under f z ≡ x → x ≡ None
      go None e = refl
      go (Some o) e = absurd (never o (back z o e))

  -- ---- the map of the slots

  abbrev value_in : ℤ → Value
  value_in o = f.values (Slot o)

  slots : IsMapOf (entry_at f) (2 ^ 34 + 2) (pos 0 -ℤ pos (2 ^ 33)) (slots_of f)
  slots = map_is (entry_at f) (2 ^ 34 + 2) (pos 0 -ℤ pos (2 ^ 33))

  no_entry : (z : ℤ) → ((o : ℤ) → IsSlotKey z o → ⊥) → entry_at f z ≡ None
  no_entry z never = ap (option_map value_in) (no_under z never)

  entries : (z : ℤ) → value_at (slots_of f) z ≡ entry_at f z
  entries z = by_lt_z z (pos 0 -ℤ pos (2 ^ 33))
      (λ low. slots.below z low ∙ sym (no_entry z (λ o is. let w = key_within z o is in let a = w.0 in omega (arith, ints))))
      (λ high. by_lt_z z (pos (2 ^ 33 + 2))
      (λ less. slots.inside z high (omega (arith, ints)))
      (λ more. slots.above z (omega (arith, ints)) ∙ sym (no_entry z (λ o is. let w = key_within z o is in let a = w.1 in omega (arith, ints)))))

  entry : (z o : ℤ) → IsSlotKey z o → value_at (slots_of f) z ≡ Some (f.values (Slot o))
  entry z o is = entries z ∙ ap (option_map value_in) (under z o is)

  absent_entry : (z : ℤ) → ((o : ℤ) → IsSlotKey z o → ⊥) → value_at (slots_of f) z ≡ None
  absent_entry z never = entries z ∙ no_entry z never

  -- the slot of an entry
  record Found (z : ℤ) (v : Value) : Type 0 where
    at : ℤ
    key : IsSlotKey z at
    value : f.values (Slot at) ≡ v

  found : (z : ℤ) (v : Value) → value_at (slots_of f) z ≡ Some v → Found z v
  found z v e = go (slot_under f z) refl (sym (entries z) ∙ e)
    where
      go : (x : Option ℤ) → slot_under f z ≡ x → option_map value_in x ≡ Some v → Found z v
      go None is e = absurd (cc)
      go (Some o) is e = record { at = o; key = back z o is; value = cc }

  narrow_fits : (size : ℕ) (v : Value) → size ≡ 4 → SlotFits size v → IsNarrow v
  narrow_fits size v e (inl k) = absurd (let z = k.0 in omega arith)
  narrow_fits size v e (inr (inl k)) = absurd (omega arith)
  narrow_fits size v e (inr (inr k)) = k.1

  narrow_of : (o q : ℤ) → IsSlotKey (narrow_key o) q → IsNarrow (f.values (Slot q))
  narrow_of o q (wide k size) = absurd (not_both q o (sym k))
  narrow_of o q (narrow k size) = narrow_fits (f.sizes q) (f.values (Slot q)) size (valid.form.slots q)

  size_wide : (o q : ℤ) → IsSlotKey (wide_key o) q → f.sizes o ≡ 8
  size_wide o q (wide k size) = let P : ℤ → Type 0 = λ z. f.sizes z ≡ 8 in subst P (one_wide o q k) size
  size_wide o q (narrow k size) = absurd (not_both o q k)

  size_narrow : (o q : ℤ) → IsSlotKey (narrow_key o) q → f.sizes o ≡ 4
  size_narrow o q (wide k size) = absurd (not_both q o (sym k))
  size_narrow o q (narrow k size) = let P : ℤ → Type 0 = λ z. f.sizes z ≡ 4 in subst P (one_narrow o q k) size

  are_slots : AreSlots (slots_of f)
  are_slots = record {
    ascending = slots.ascending;
    within = λ z has. let k = found z has.0 has.1 in key_within z k.at k.key;
    values = λ z v e. let k = found z v e in subst (λ (x : Value). IsValue x) k.value (valid.form.values (Slot k.at));
    narrow = λ o v e. let k = found (narrow_key o) v e in subst (λ (x : Value). IsNarrow x) k.value (narrow_of o k.at k.key);
    apart = λ o a b.
        let k = found (wide_key o) a.0 a.1 in
        let l = found (narrow_key o) b.0 b.1 in
        let eight = size_wide o k.at k.key in
        let four = size_narrow o l.at l.key in
        omega arith;
  }

  -- ---- the slot at an offset

  data SlotCase (o : ℤ) : Type 0 where
    there : IsSlotKey (slot_key (slots_of f) o) o → slot_size (slots_of f) o ≡ f.sizes o → f.sizes o ≢ 0 → SlotCase o
    missing : f.sizes o ≡ 0 → slot_size (slots_of f) o ≡ 0 → value_at (slots_of f) (slot_key (slots_of f) o) ≡ None → f.values (Slot o) ≡ Any → SlotCase o

  by_fit : (o : ℤ) → SlotFits (f.sizes o) (f.values (Slot o)) → SlotCase o
  by_fit o (inl k) =
      let no_narrow = absent_entry (narrow_key o) (λ q is. let four = size_narrow o q is in let zero = k.0 in omega arith) in
      let no_wide = absent_entry (wide_key o) (λ q is. let eight = size_wide o q is in let zero = k.0 in omega arith) in
      missing k.0 (size_by (slots_of f) o None None no_narrow no_wide) (ap (λ (z : ℤ). value_at (slots_of f) z) (key_by (slots_of f) o None no_narrow) ∙ no_wide) k.1
  by_fit o (inr (inl eight)) =
      let is : IsSlotKey (wide_key o) o = wide refl eight in
      let no_narrow = absent_entry (narrow_key o) (λ q is. let four = size_narrow o q is in omega arith) in
      let key = key_by (slots_of f) o None no_narrow in
      there (subst (λ (z : ℤ). IsSlotKey z o) (sym key) is) (size_by (slots_of f) o None (Some (f.values (Slot o))) no_narrow (entry (wide_key o) o is) ∙ sym eight) (λ e. omega arith)
  by_fit o (inr (inr k)) =
      let four : f.sizes o ≡ 4 = k.0 in
      let is : IsSlotKey (narrow_key o) o = narrow refl four in
      let at = entry (narrow_key o) o is in
      let key = key_by (slots_of f) o (Some (f.values (Slot o))) at in
      there (subst (λ (z : ℤ). IsSlotKey z o) (sym key) is) (size_by (slots_of f) o (Some (f.values (Slot o))) (value_at (slots_of f) (wide_key o)) at refl ∙ sym four) (λ e. omega arith)

  slot_case : (o : ℤ) → SlotCase o
  slot_case o = by_fit o (valid.form.slots o)

  -- ---- places by numbers

  abbrev place_by : Bool → Bool → ℕ → Option Spot
  place_by low flags a = if low then Some (Reg a) else (if flags then Some Flags else option_map Slot (slot_under f (key_of a)))

  -- which place has a number
  data IsPlaceAt (a : ℕ) (p : Spot) : Type 0 where
    register : a < 17 → p ≡ Reg a → IsPlaceAt a p
    flags : a ≡ 256 → p ≡ Flags → IsPlaceAt a p
    slot : (o : ℤ) → slot_under f (key_of a) ≡ Some o → p ≡ Slot o → IsPlaceAt a p

  place_back : (a : ℕ) (p : Spot) → place_at f a ≡ Some p → IsPlaceAt a p
  unfolding place_at
  place_back a p e = go (nat_lt a 17) (a == 256) refl refl e
    where
      by_slot : (x : Option ℤ) → slot_under f (key_of a) ≡ x → option_map Slot x ≡ Some p → IsPlaceAt a p
      by_slot None is e = absurd (cc)
      by_slot (Some o) is e = slot o is (sym (some_spot (Slot o) p e))

      go : (b c : Bool) → nat_lt a 17 ≡ b → (a == 256) ≡ c → place_by b c a ≡ Some p → IsPlaceAt a p
      go true c low is e = register (ltb-true a 17 low) (sym (some_spot (Reg a) p e))
      go false true low is e = flags (eqb-true a 256 is) (sym (some_spot Flags p e))
      go false false low is e = by_slot (slot_under f (key_of a)) refl e

  few_places : (a : ℕ) (p : Spot) → IsPlaceAt a p → a < 2 ^ 64 + 2 ^ 34
  few_places a p (register low e) = omega arith
  few_places a p (flags is e) = omega arith
  few_places a p (slot o is e) = let w = key_within (key_of a) o (back (key_of a) o is) in let high = w.1 in omega (arith, ints)

  some_or_none : (x : Option Spot) → ((p : Spot) × (x ≡ Some p)) ⊎ (x ≡ None)
  some_or_none None = inr refl
  some_or_none (Some p) = inl (p, refl)

  -- two numbers that are together are one, or those of two places in one class
  record IsPair (a b : ℕ) : Type 0 where
    first : Spot
    second : Spot
    first_at : place_at f a ≡ Some first
    second_at : place_at f b ≡ Some second
    same : f.same first second ≡ true

  pair_by : (a b : ℕ) (x y : Option Spot) → place_at f a ≡ x → place_at f b ≡ y → are_same f x y ≡ true → IsPair a b
  pair_by a b None y first second e = absurd (false≢true e)
  pair_by a b (Some p) None first second e = absurd (false≢true e)
  pair_by a b (Some p) (Some q) first second e = record { first = p; second = q; first_at = first; second_at = second; same = e }

  pair_of : (a b : ℕ) → together f a b ≡ true → (a ≡ b) ⊎ IsPair a b
  pair_of a b e = elim (or_cases (a == b) (are_same f (place_at f a) (place_at f b)) e) [
    | inl one ↦ inl (eqb-true a b one)
    | inr two ↦ inr (pair_by a b (place_at f a) (place_at f b) refl refl two)
  ]

  pair : (a b : ℕ) (p q : Spot) → place_at f a ≡ Some p → place_at f b ≡ Some q → f.same p q ≡ true → together f a b ≡ true
  pair a b p q first second same =
      or_second (a == b) (are_same f (place_at f a) (place_at f b))
      (ap (λ (x : Option Spot). are_same f x (place_at f b)) first ∙ ap (λ (y : Option Spot). are_same f (Some p) y) second ∙ same)

  itself : (a : ℕ) → together f a a ≡ true
  itself a = or_first (a == a) (are_same f (place_at f a) (place_at f a)) (eq-eqb a a refl)

  symmetric : (a b : ℕ) → together f a b ≡ true → together f b a ≡ true
  symmetric a b e = elim (pair_of a b e) [
    | inl same ↦ or_first (b == a) (are_same f (place_at f b) (place_at f a)) (eq-eqb b a (sym same))
    | inr k ↦ pair b a k.second k.first k.second_at k.first_at (valid.symmetric k.first k.second k.same)
  ]

  transitive : (a b c : ℕ) → together f a b ≡ true → together f b c ≡ true → together f a c ≡ true
  transitive a b c e d = elim (pair_of a b e) [
    | inl same ↦ let P : ℕ → Type 0 = λ x. together f x c ≡ true in subst P (sym same) d
    | inr k ↦ elim (pair_of b c d) [
      | inl same ↦ let P : ℕ → Type 0 = λ x. together f a x ≡ true in subst P same e
      | inr l ↦
          let one : k.second ≡ l.first = some_spot k.second l.first (sym k.second_at ∙ l.first_at) in
          let P : Spot → Type 0 = λ x. f.same k.first x ≡ true in
          pair a c k.first l.second k.first_at l.second_at (valid.transitive k.first l.first l.second (subst P one k.same) l.same)
    ]
  ]

  few : (a b : ℕ) → together f a b ≡ true → a ≢ b → a < 2 ^ 64 + 2 ^ 34
  few a b e other = elim (pair_of a b e) [
    | inl same ↦ absurd (other same)
    | inr k ↦ few_places a k.first (place_back a k.first k.first_at)
  ]

  classes : IsParted (together f) (classes_of f)
  classes = parted (together f) (2 ^ 64 + 2 ^ 34) (record { itself = itself; symmetric = symmetric; transitive = transitive; few = few })

  -- ---- the parts

  registers : IsRowOf (register_of f) unknown_register 17 0 (registers_of f)
  registers = row_is (register_of f) unknown_register 17 0

  written : AreRangesOf f.written (2 ^ 32) (pos 0 -ℤ pos (2 ^ 32)) (written_of f)
  written = ranges_are f.written (2 ^ 32) (pos 0 -ℤ pos (2 ^ 32))

  abbrev parts : Parts
  parts = record { registers = registers_of f; probed = f.probed; written = written_of f; slots = slots_of f; classes = classes_of f; fact = f.fact }

  known_at : (r : ℕ) → r < 17 → register_at (registers_of f) r ≡ register_of f r
  known_at r low = let same : 0 + r ≡ r = omega arith in registers.at r low ∙ ap (register_of f) same

  unknown_from : (r : ℕ) → 17 ≤ r → register_at (registers_of f) r ≡ unknown_register
  unknown_from r far = let size = registers.size in unknown_at (registers_of f) r (omega arith)

  each_register : (P : Register → Type 0) → ((r : ℕ) → P (register_of f r)) → P unknown_register → (r : ℕ) → P (register_at (registers_of f) r)
  each_register P known unknown r = elim (cases_lt r 17) [
    | inl low ↦ subst P (sym (known_at r low)) (known r)
    | inr far ↦ subst P (sym (unknown_from r far)) unknown
  ]

  named_by : (a : ℕ) (p : Spot) → IsPlaceAt a p → IsThere (slots_of f) a
  named_by a p (register low e) = inl (inl low)
  named_by a p (flags is e) = inl (inr is)
  named_by a p (slot o is e) = inr (f.values (Slot o), entry (key_of a) o (back (key_of a) o is))

  named : (a b : ℕ) → Same (classes_of f) a b → a ≢ b → IsThere (slots_of f) a
  named a b same other = elim (pair_of a b (classes.told a b same)) [
    | inl one ↦ absurd (other one)
    | inr k ↦ named_by a k.first (place_back a k.first k.first_at)
  ]

  is_state : IsState parts
  is_state = record {
    registers = record {
      seventeen = registers.size;
      registers = each_register (λ (x : Register). IsRegister x) (λ r. record { value = valid.form.values (Reg r); offset = valid.form.offsets r }) (record { value = tt; offset = tt });
    };
    probed = valid.probed;
    ranges = written.are;
    frame = λ x h. (written.low x h, written.high x h);
    slots = are_slots;
    classes = classes.is;
    named = named;
    fact = valid.form.fact;
  }

  fits : Fits bounds parts
  fits = record {
    registers = each_register (λ (x : Register). IsAmong bounds x.value) (λ r. valid.form.among (Reg r)) tt;
    slots = λ z v e. let k = found z v e in subst (λ (x : Value). IsAmong bounds x) k.value (valid.form.among (Slot k.at));
  }

  -- ---- the form of the parts

  offset_is : (r : ℕ) → (register_at (registers_of f) r).offset ≡ f.offsets r
  offset_is r = elim (cases_lt r 17) [
    | inl low ↦ ap (λ (x : Register). x.offset) (known_at r low)
    | inr far ↦ ap (λ (x : Register). x.offset) (unknown_from r far) ∙ sym (valid.registers r far).offset
  ]

  slot_value : (o : ℤ) → SlotCase o → value_of parts (Slot o) ≡ f.values (Slot o)
  slot_value o (there is size some) = ap value_or_any (entry (slot_key (slots_of f) o) o is)
  slot_value o (missing zero size none any) = ap value_or_any none ∙ sym any

  value_is : (p : Spot) → value_of parts p ≡ f.values p
  value_is (Reg r) = elim (cases_lt r 17) [
    | inl low ↦ ap (λ (x : Register). x.value) (known_at r low)
    | inr far ↦ ap (λ (x : Register). x.value) (unknown_from r far) ∙ sym (valid.registers r far).value
  ]
  value_is Flags = sym valid.compared
  value_is (Slot o) = slot_value o (slot_case o)

  size_is : (o : ℤ) → SlotCase o → slot_size (slots_of f) o ≡ f.sizes o
  size_is o (there is size some) = size
  size_is o (missing zero size none any) = size ∙ sym zero

  -- the number of a place that is there is that of the place
  low_key : (z o : ℤ) → IsSlotKey z o → (pos 0 -ℤ pos (2 ^ 34)) ≤ℤ z
  low_key z o is = let w = key_within z o is in let a = w.0 in omega (arith, ints)

  slot_place : (z o : ℤ) → IsSlotKey z o → place_at f (slot_number z) ≡ Some (Slot o)
  unfolding place_at
  slot_place z o is = go (nat_lt (slot_number z) 17) (slot_number z == 256) refl refl
    where
      far : 256 < slot_number z
      far = number_far z (low_key z o is)

      go : (b c : Bool) → nat_lt (slot_number z) 17 ≡ b → (slot_number z == 256) ≡ c → place_by b c (slot_number z) ≡ Some (Slot o)
      go true c low same = absurd (let less = ltb-true (slot_number z) 17 low in omega (arith, far))
      go false true low same = absurd (let one = eqb-true (slot_number z) 256 same in omega (arith, far))
      go false false low same =
          ap (λ (k : ℤ). option_map Slot (slot_under f k)) (key_back z (low_key z o is)) ∙ ap (option_map Slot) (under z o is)

  numbered_slot : (o : ℤ) → SlotCase o → is_there parts (Slot o) ≡ true → place_at f (class_number parts (Slot o)) ≡ Some (Slot o)
  numbered_slot o (there is size some) h = slot_place (slot_key (slots_of f) o) o is
  numbered_slot o (missing zero size none any) h = absurd (false≢true (sym (ap is_some none) ∙ h))

  numbered : (p : Spot) → is_there parts p ≡ true → place_at f (class_number parts p) ≡ Some p
  unfolding place_at
  numbered (Reg r) h = of_register (nat_lt r 17) h
    where
      of_register : (b : Bool) → b ≡ true → place_by b (r == 256) r ≡ Some (Reg r)
      of_register true h = refl
      of_register false h = absurd (false≢true h)
  numbered Flags h = refl
  numbered (Slot o) h = numbered_slot o (slot_case o) h

  -- a place that is not there is alone
  lone_slot : (o : ℤ) → SlotCase o → is_there parts (Slot o) ≡ false → (q : Spot) → f.same (Slot o) q ≡ true → q ≡ Slot o
  lone_slot o (there is size some) h q same = absurd (false≢true (sym h ∙ ap is_some (entry (slot_key (slots_of f) o) o is)))
  lone_slot o (missing zero size none any) h q same = valid.form.alone_left q o zero same

  lone : (p : Spot) → is_there parts p ≡ false → (q : Spot) → f.same p q ≡ true → q ≡ p
  lone (Reg r) h q same = elim (cases_lt r 17) [
    | inl low ↦ absurd (false≢true (sym h ∙ lt-ltb r 17 low))
    | inr far ↦ (valid.registers r far).alone q same
  ]
  lone Flags h q same = absurd (false≢true (sym h))
  lone (Slot o) h q same = lone_slot o (slot_case o) h q same

  same_to : (p q : Spot) → is_same parts p q ≡ true → f.same p q ≡ true
  same_to p q h = elim (same_cases parts p q h) [
    | inl one ↦ let P : Spot → Type 0 = λ x. f.same p x ≡ true in subst P one (valid.form.itself p)
    | inr t ↦
        let first = numbered p t.first in
        let second = numbered q t.second in
        elim (pair_of (class_number parts p) (class_number parts q) (classes.told (class_number parts p) (class_number parts q) t.roots)) [
          | inl one ↦
              let P : Spot → Type 0 = λ x. f.same p x ≡ true in
              subst P (some_spot p q (sym first ∙ ap (place_at f) one ∙ second)) (valid.form.itself p)
          | inr k ↦
              let p_is : k.first ≡ p = some_spot k.first p (sym k.first_at ∙ first) in
              let q_is : k.second ≡ q = some_spot k.second q (sym k.second_at ∙ second) in
              let P : Spot → Type 0 = λ x. f.same x k.second ≡ true in
              let Q : Spot → Type 0 = λ x. f.same p x ≡ true in
              subst Q q_is (subst P p_is k.same)
        ]
  ]

  same_from : (p q : Spot) → f.same p q ≡ true → is_same parts p q ≡ true
  same_from p q h = go (is_there parts p) (is_there parts q) refl refl
    where
      go : (a b : Bool) → is_there parts p ≡ a → is_there parts q ≡ b → is_same parts p q ≡ true
      go false b first second = same_here parts p q (sym (lone p first q h))
      go true false first second = same_here parts p q (lone q second p (valid.symmetric p q h))
      go true true first second =
          same_together parts p q (record {
            first = first;
            second = second;
            roots = classes.found (class_number parts p) (class_number parts q) (pair (class_number parts p) (class_number parts q) p q (numbered p first) (numbered q second) h);
          })

  written_is : (x : ℤ) → is_written (written_of f) x ≡ f.written x
  written_is x = one_test (is_written (written_of f) x) (f.written x) (written.told x)
      (λ h. let below = valid.form.written x h in written.found x (valid.frame x h) (omega (arith, ints)) h)

  form_is : abstract_of parts ≡ f
  form_is = form_same (abstract_of parts) f offset_is value_is (λ o. size_is o (slot_case o)) (λ p q. one_test (is_same parts p q) (f.same p q) (same_to p q) (same_from p q)) refl refl written_is

  pub whole : IsValidState bounds (state_of f) × (abstract_of (state_of f) ≡ f)
  unfolding state_of
  whole = (record { state = is_state; fits = fits }, form_is)

pub state_of_forms : FormLaws.StateOfForms
state_of_forms bounds f valid = whole bounds f valid

pub forms_are_of_states : FormLaws.FormsAreOfStates
forms_are_of_states bounds f valid = let built = state_of_forms bounds f valid in (state_of f, built.0, built.1)
