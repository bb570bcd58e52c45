-- What abstract forms tell of the parts of states.
use Rattle.std.proofs.Common.{◌≡◌, ◌≢◌, ℕ, zero, suc, ◌+◌, ◌^◌, ◌⊎◌, List, [], ◌∷◌, length, refl, sym, ap, subst, ◌∙◌, arith, Some, None, inl, inr, true, is_some}
use Rattle.std.proofs.lemmas.Int.{ints}
use Rattle.std.proofs.lemmas.Bool.Decides.{eqb_tells}
use Rattle.std.proofs.lemmas.Bool.{lt-ltb}
use Rattle.std.specs.Prelude.{ℤ, pos, negsuc, ◌-ℤ◌, ◌≤ℤ◌, Option, if◌then◌else◌}
use Rattle.vw_lattice.specs.Entries.{value_at, map_below, IsBelowAt}
use Rattle.vw_lattice.specs.EntryOrder.{value_laws, map_antisymmetric}
use Rattle.vw_locals.specs.RangeOrder.{written_antisymmetric}
use Rattle.vw_names.specs.declared.spot.Spot.{Spot}
use Rattle.vw_names.specs.declared.spot.Spot.TheVariants.{Reg, Flags, Slot}
use Rattle.vw_names.specs.Division.{root, Same, division_below}
use Rattle.vw_names.specs.DivisionOrder.{division_antisymmetric}
use Rattle.vw_names.specs.Spot.{slot_number}
use Rattle.vw_values.specs.declared.value.Value.{Value}
use Rattle.vw_values.specs.Values.{value_below}
use Rattle.vw_domain.specs.declared.parts.Parts.{Parts}
use Rattle.vw_domain.specs.declared.registers.Register.{Register}
use Rattle.vw_domain.specs.Registers.{register_at}
use Rattle.vw_domain.specs.RegisterOrder.{register_same}
use Rattle.vw_domain.specs.State.{wide_key, narrow_key, AreSlots, IsState, IsThere, key_of, state_below}
use Rattle.vw_domain.specs.StateOrder.{state_same}
use Rattle.vw_domain.specs.Abstract.{Abstract, abstract_of, slot_key, slot_size, value_or_any, value_of, is_there, class_number, is_same, IsBelow}
use Rattle.vw_domain.proofs.SameLemmas.{same_cases, same_together}

-- ---- keys

-- a number is twice another, or one more
pub record Halved (z : ℤ) : Type 0 where
  pub half : ℤ
  pub is : (z ≡ wide_key half) ⊎ (z ≡ narrow_key half)

nat_halved : (n : ℕ) → (m : ℕ) × ((n ≡ m + m) ⊎ (n ≡ m + m + 1))
nat_halved zero = (0, inl (omega arith))
nat_halved (suc n) =
    let h = nat_halved n in
    elim h.1 [
      | inl even ↦ (h.0, inr (omega arith))
      | inr odd ↦ (h.0 + 1, inl (omega arith))
    ]

pub halved : (z : ℤ) → Halved z
halved (pos n) =
    let h = nat_halved n in
    elim h.1 [
      | inl even ↦ record { half = pos h.0; is = inl (omega (arith, ints)) }
      | inr odd ↦ record { half = pos h.0; is = inr (omega (arith, ints)) }
    ]
halved (negsuc n) =
    let h = nat_halved n in
    elim h.1 [
      | inl even ↦ record { half = negsuc h.0; is = inr (omega (arith, ints)) }
      | inr odd ↦ record { half = negsuc h.0; is = inl (omega (arith, ints)) }
    ]

-- ---- slots by their sizes

-- the slot at an offset, as the keys tell it
pub record IsWideSlot (slots : List (ℤ × Value)) (o : ℤ) : Type 0 where
  pub value : Value
  pub found : value_at slots (wide_key o) ≡ Some value
  pub key : slot_key slots o ≡ wide_key o

pub record IsNarrowSlot (slots : List (ℤ × Value)) (o : ℤ) : Type 0 where
  pub value : Value
  pub found : value_at slots (narrow_key o) ≡ Some value
  pub key : slot_key slots o ≡ narrow_key o

pub there_or_none : (x : Option Value) → ((v : Value) × (x ≡ Some v)) ⊎ (x ≡ None)
there_or_none None = inr refl
there_or_none (Some v) = inl (v, refl)

module _ (slots : List (ℤ × Value)) (o : ℤ) where
  pub size_by : (a b : Option Value) → value_at slots (narrow_key o) ≡ a → value_at slots (wide_key o) ≡ b → slot_size slots o ≡ (if is_some a then 4 else (if is_some b then 8 else 0))
  size_by a b narrow wide = rw (narrow, wide) refl

  pub key_by : (a : Option Value) → value_at slots (narrow_key o) ≡ a → slot_key slots o ≡ (if is_some a then narrow_key o else wide_key o)
  key_by a narrow = rw narrow refl

  pub size_wide : slot_size slots o ≡ 8 → IsWideSlot slots o
  size_wide size = elim (there_or_none (value_at slots (narrow_key o))) [
    | inl n ↦ let other = size_by (Some n.0) (value_at slots (wide_key o)) n.1 refl in absurd (omega arith)
    | inr no_narrow ↦ elim (there_or_none (value_at slots (wide_key o))) [
      | inl w ↦ record { value = w.0; found = w.1; key = key_by None no_narrow }
      | inr no_wide ↦ let other = size_by None None no_narrow no_wide in absurd (omega arith)
    ]
  ]

  pub size_narrow : slot_size slots o ≡ 4 → IsNarrowSlot slots o
  size_narrow size = elim (there_or_none (value_at slots (narrow_key o))) [
    | inl n ↦ record { value = n.0; found = n.1; key = key_by (Some n.0) n.1 }
    | inr no_narrow ↦ elim (there_or_none (value_at slots (wide_key o))) [
      | inl w ↦ let other = size_by None (Some w.0) no_narrow w.1 in absurd (omega arith)
      | inr no_wide ↦ let other = size_by None None no_narrow no_wide in absurd (omega arith)
    ]
  ]

  pub narrow_slot : (v : Value) → value_at slots (narrow_key o) ≡ Some v → slot_size slots o ≡ 4
  narrow_slot v found = size_by (Some v) (value_at slots (wide_key o)) found refl

  pub wide_slot : (v : Value) → AreSlots slots → value_at slots (wide_key o) ≡ Some v → slot_size slots o ≡ 8
  wide_slot v are found = elim (there_or_none (value_at slots (narrow_key o))) [
    | inl n ↦ absurd (are.apart o (v, found) n)
    | inr none ↦ size_by None (Some v) none found
  ]

-- ---- from the order of forms to that of states

some_value : (x : Option Value) (v : Value) → x ≡ Some v → value_or_any x ≡ v
some_value x v found = ap value_or_any found

-- what one form tells of another, by an order of values
pub record Tells (below : Value → Value → Type 0) (s t : Parts) : Type 0 where
  pub values : (p : Spot) → below (value_of s p) (value_of t p)
  pub sizes : (o : ℤ) → (slot_size t.slots o ≡ 0) ⊎ (slot_size s.slots o ≡ slot_size t.slots o)
  pub same : (p q : Spot) → is_same t p q ≡ true → is_same s p q ≡ true

module _ (below : Value → Value → Type 0) (s t : Parts) (is_t : IsState t) (f : Tells below s t) where
  size_down : (o : ℤ) (n : ℕ) → slot_size t.slots o ≡ n → n ≢ 0 → slot_size s.slots o ≡ n
  size_down o n size there = elim (f.sizes o) [
    | inl none ↦ absurd (there (sym size ∙ none))
    | inr same ↦ same ∙ size
  ]

  value_down : (o key : ℤ) (v w : Value) → slot_key s.slots o ≡ key → slot_key t.slots o ≡ key → value_at s.slots key ≡ Some v → value_at t.slots key ≡ Some w → below v w
  value_down o key v w key_s key_t found_s found_t =
      let low = some_value (value_at s.slots (slot_key s.slots o)) v (ap (λ (k : ℤ). value_at s.slots k) key_s ∙ found_s) in
      let high = some_value (value_at t.slots (slot_key t.slots o)) w (ap (λ (k : ℤ). value_at t.slots k) key_t ∙ found_t) in
      subst (λ (x : Value). below x w) low (subst (λ (x : Value). below (value_of s (Slot o)) x) high (f.values (Slot o)))

  pub slots_down : map_below below s.slots t.slots
  slots_down key w found =
      let h = halved key in
      elim h.is [
        | inl wide ↦
            let found_t : value_at t.slots (wide_key h.half) ≡ Some w = subst (λ (k : ℤ). value_at t.slots k ≡ Some w) wide found in
            let high = wide_slot t.slots h.half w is_t.slots found_t in
            let low = size_wide s.slots h.half (size_down h.half 8 high (omega arith)) in
            let up = size_wide t.slots h.half high in
            subst (λ (k : ℤ). IsBelowAt below s.slots k w) (sym wide)
            (low.value, low.found, value_down h.half (wide_key h.half) low.value w low.key up.key low.found found_t)
        | inr narrow ↦
            let found_t : value_at t.slots (narrow_key h.half) ≡ Some w = subst (λ (k : ℤ). value_at t.slots k ≡ Some w) narrow found in
            let high = narrow_slot t.slots h.half w found_t in
            let low = size_narrow s.slots h.half (size_down h.half 4 high (omega arith)) in
            let up = size_narrow t.slots h.half high in
            subst (λ (k : ℤ). IsBelowAt below s.slots k w) (sym narrow)
            (low.value, low.found, value_down h.half (narrow_key h.half) low.value w low.key up.key low.found found_t)
      ]

  -- a place that classes of the greater state name, and its number in both
  record Named (a : ℕ) : Type 0 where
    place : Spot
    there : is_there t place ≡ true
    high : class_number t place ≡ a
    low : class_number s place ≡ a

  number_back : (a : ℕ) (key : ℤ) → key_of a ≡ key → (pos 0 -ℤ pos (2 ^ 33)) ≤ℤ key → slot_number key ≡ a
  number_back a (pos n) is within = omega (arith, ints)
  number_back a (negsuc n) is within = omega (arith, ints)

  named_slot : (a : ℕ) (o key : ℤ) (v : Value) → key_of a ≡ key → value_at t.slots key ≡ Some v → slot_key t.slots o ≡ key → slot_key s.slots o ≡ key → Named a
  named_slot a o key v is found key_t key_s =
      let number = number_back a key is (is_t.slots.within key (v, found)).0 in
      let there : is_some (value_at t.slots (slot_key t.slots o)) ≡ true = ap (λ (k : ℤ). is_some (value_at t.slots k)) key_t ∙ ap is_some found in
      record { place = Slot o; there = there; high = ap slot_number key_t ∙ number; low = ap slot_number key_s ∙ number }

  named_at : (a : ℕ) → IsThere t.slots a → Named a
  named_at a (inl (inl low)) = record { place = Reg a; there = lt-ltb a 17 low; high = refl; low = refl }
  named_at a (inl (inr is)) = record { place = Flags; there = refl; high = sym is; low = sym is }
  named_at a (inr has) =
      let h = halved (key_of a) in
      elim h.is [
        | inl wide ↦
            let found : value_at t.slots (wide_key h.half) ≡ Some has.0 = subst (λ (k : ℤ). value_at t.slots k ≡ Some has.0) wide has.1 in
            let high = wide_slot t.slots h.half has.0 is_t.slots found in
            let up = size_wide t.slots h.half high in
            let low = size_wide s.slots h.half (size_down h.half 8 high (omega arith)) in
            named_slot a h.half (wide_key h.half) has.0 wide found up.key low.key
        | inr narrow ↦
            let found : value_at t.slots (narrow_key h.half) ≡ Some has.0 = subst (λ (k : ℤ). value_at t.slots k ≡ Some has.0) narrow has.1 in
            let high = narrow_slot t.slots h.half has.0 found in
            let up = size_narrow t.slots h.half high in
            let low = size_narrow s.slots h.half (size_down h.half 4 high (omega arith)) in
            named_slot a h.half (narrow_key h.half) has.0 narrow found up.key low.key
      ]

  pub classes_down : division_below s.classes t.classes
  classes_down a b same = elim (eqb_tells a b) [
    | inl is ↦ ap (root s.classes) is.1
    | inr apart ↦
        let p = named_at a (is_t.named a b same apart.1) in
        let q = named_at b (is_t.named b a (sym same) (λ e. apart.1 (sym e))) in
        let high : Same t.classes (class_number t p.place) (class_number t q.place) = ap (root t.classes) p.high ∙ same ∙ sym (ap (root t.classes) q.high) in
        let together : is_same s p.place q.place ≡ true = f.same p.place q.place (same_together t p.place q.place (record { first = p.there; second = q.there; roots = high })) in
        elim (same_cases s p.place q.place together) [
          | inl is ↦ ap (root s.classes) (sym p.low ∙ ap (class_number s) is ∙ q.low)
          | inr both ↦ sym (ap (root s.classes) p.low) ∙ both.roots ∙ ap (root s.classes) q.low
        ]
  ]

pub form_down : (s t : Parts) → IsState t → IsBelow (abstract_of s) (abstract_of t) → state_below s t
form_down s t is_t f =
    let tells : Tells value_below s t = record { values = f.values; sizes = f.sizes; same = f.same } in
    record {
      registers = λ r. record { offset = f.offsets r; value = f.values (Reg r) };
      probed = f.probed;
      written = f.written;
      slots = slots_down value_below s t is_t tells;
      classes = classes_down value_below s t is_t tells;
      fact = f.fact;
    }

-- ---- one form, one state

abbrev one_value : Value → Value → Type 0
one_value v w = v ≡ w

all_same : (x y : List Register) → length x ≡ length y → ((r : ℕ) → register_at x r ≡ register_at y r) → x ≡ y
all_same [] [] size same = refl
all_same [] (b ∷ ys) size same = absurd (omega arith)
all_same (a ∷ xs) [] size same = absurd (omega arith)
all_same (a ∷ xs) (b ∷ ys) size same =
    let head : a ≡ b = same 0 in
    let tail : xs ≡ ys = all_same xs ys (omega arith) (λ r. same (suc r)) in
    cc

-- equality as an order of values
one_below : (s t : Parts) → abstract_of s ≡ abstract_of t → Tells one_value s t
one_below s t e = record {
  values = λ p. ap (λ (f : Abstract). f.values p) e;
  sizes = λ o. inr (ap (λ (f : Abstract). f.sizes o) e);
  same = λ p q h. ap (λ (f : Abstract). f.same p q) e ∙ h;
}

same_slots : (x y : List (ℤ × Value)) → AreSlots x → AreSlots y → map_below one_value x y → map_below one_value y x → x ≡ y
same_slots x y are_x are_y f g =
    let any : Value → Type 0 = λ v. Unit {0} in
    let none : Value → ℕ = λ v. 0 in
    map_antisymmetric any one_value none
    (value_laws any one_value none (λ v h. refl) (λ u v w hu hv hw e d. e ∙ d) (λ v w hv hw e. omega arith) (λ v w hv hw e ranks. e))
    x y
    (record { ascending = are_x.ascending; values = λ key v found. tt })
    (record { ascending = are_y.ascending; values = λ key v found. tt })
    f g

pub one_state : (s t : Parts) → IsState s → IsState t → abstract_of s ≡ abstract_of t → s ≡ t
one_state s t is_s is_t e =
    let down = one_below s t e in
    let up = one_below t s (sym e) in
    state_same s t
    (all_same s.registers t.registers (is_s.registers.seventeen ∙ sym is_t.registers.seventeen)
    (λ r. register_same (register_at s.registers r) (register_at t.registers r) (ap (λ (f : Abstract). f.offsets r) e) (ap (λ (f : Abstract). f.values (Reg r)) e)))
    (ap (λ (f : Abstract). f.probed) e)
    (written_antisymmetric s.written t.written is_s.ranges is_t.ranges (λ c h. ap (λ (f : Abstract). f.written c) e ∙ h) (λ c h. sym (ap (λ (f : Abstract). f.written c) e) ∙ h))
    (same_slots s.slots t.slots is_s.slots is_t.slots (slots_down one_value s t is_t down) (slots_down one_value t s is_s up))
    (division_antisymmetric s.classes t.classes is_s.classes is_t.classes (classes_down one_value s t is_t down) (classes_down one_value t s is_s up))
    (ap (λ (f : Abstract). f.fact) e)
