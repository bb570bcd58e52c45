-- Values of places that are changed one by one: the state stays one, and its form has the new values.
use Rattle.std.proofs.Common.{◌≡◌, ◌≢◌, ℕ, ◌<◌, List, refl, sym, ap, subst, ◌∙◌, arith, Some, None, inl, inr, Bool, true, false, is_some, ◌&&◌, ◌||◌}
use Rattle.std.proofs.lemmas.Bool.{lt-ltb, ltb-true, cases_lt}
use Rattle.std.specs.Prelude.{ℤ, Option, ◌↔◌, ◌==◌, if◌then◌else◌}
use Rattle.std.specs.Option.{option_map}
use Rattle.vw_lattice.specs.Entries.{value_at}
use Rattle.vw_names.specs.declared.spot.Spot.{Spot}
use Rattle.vw_names.specs.declared.spot.Spot.TheVariants.{Reg, Flags, Slot}
use Rattle.vw_names.specs.Division.{root}
use Rattle.vw_names.specs.Spot.{slot_number}
use Rattle.vw_values.specs.declared.value.Value.{Value}
use Rattle.vw_values.specs.declared.value.Value.TheVariants.{Any}
use Rattle.vw_values.specs.Values.{IsValue, IsAmong}
use Rattle.vw_domain.specs.declared.parts.Parts.{Parts}
use Rattle.vw_domain.specs.declared.registers.Register.{Register}
use Rattle.vw_domain.specs.Registers.{register_at, IsRegister}
use Rattle.vw_domain.specs.State.{wide_key, narrow_key, IsNarrow, AreSlots, IsState, IsThere, key_of, Fits}
use Rattle.vw_domain.specs.Abstract.{abstract_of, is_place, slot_key, slot_size, value_of, value_or_any, is_there, class_number, is_same}
use Rattle.vw_domain.specs.Refines.{with_value_by, EachRegister, EachSlot}
use Rattle.vw_domain.proofs.RowLemmas.{unknown_at}
use Rattle.vw_domain.proofs.ForgetLemmas.{mapped_some}
use Rattle.vw_domain.proofs.WriteLemmas.{form_same, no_some}
use Rattle.vw_domain.proofs.LeaveLemmas.{true_or_false}
use Rattle.vw_domain.proofs.Lowers.{and_both, both_and}
use Rattle.vw_domain.proofs.FormOrder.{halved, narrow_slot, wide_slot, size_narrow, size_wide}

unmapped : (g : Value → Value) (x : Option Value) (w : Value) → option_map g x ≡ Some w → (v : Value) × (x ≡ Some v) × (g v ≡ w)
unmapped g None w found = absurd (cc)
unmapped g (Some v) w found = (v, refl, cc)

-- the slot under a key
pub place_of : (s : Parts) (key : ℤ) (v : Value) → IsState s → value_at s.slots key ≡ Some v → (o : ℤ) × (slot_key s.slots o ≡ key)
place_of s key v is_s found =
    let h = halved key in
    elim h.is [
      | inl wide ↦
          let found_o : value_at s.slots (wide_key h.half) ≡ Some v = subst (λ (k : ℤ). value_at s.slots k ≡ Some v) wide found in
          (h.half, (size_wide s.slots h.half (wide_slot s.slots h.half v is_s.slots found_o)).key ∙ sym wide)
      | inr narrow ↦
          let found_o : value_at s.slots (narrow_key h.half) ≡ Some v = subst (λ (k : ℤ). value_at s.slots k ≡ Some v) narrow found in
          (h.half, (size_narrow s.slots h.half (narrow_slot s.slots h.half v found_o)).key ∙ sym narrow)
    ]

-- nothing is known of a place that is not there
pub value_absent : (s : Parts) (p : Spot) → IsState s → is_there s p ≡ false → value_of s p ≡ Any
value_absent s (Reg r) is_s absent =
    let size = is_s.registers.seventeen in
    elim (cases_lt r 17) [
      | inl less ↦ absurd (let never : true ≡ false = sym (lt-ltb r 17 less) ∙ absent in cc)
      | inr more ↦ ap (λ (x : Register). x.value) (unknown_at s.registers r (omega arith))
    ]
value_absent s Flags is_s absent = refl
value_absent s (Slot o) is_s absent = ap value_or_any (no_some (value_at s.slots (slot_key s.slots o)) absent)

module _ (s : Parts) (g : ℕ → Value → Value) (test : ℕ → Value → Bool) (registers : List Register) (slots : List (ℤ × Value)) (in_row in_slots : Bool) (is_s : IsState s) (of_row : EachRegister g test s.registers registers in_row) (of_slots : EachSlot g test s.slots slots in_slots) where
  abbrev now : Parts
  now = record s { registers = registers; slots = slots }

  some_now : (key : ℤ) → is_some (value_at slots key) ≡ is_some (value_at s.slots key)
  some_now key = ap is_some (of_slots.values key) ∙ mapped_some (g (slot_number key)) (value_at s.slots key)

  key_now : (o : ℤ) → slot_key slots o ≡ slot_key s.slots o
  key_now o = ap (λ (b : Bool). if b then narrow_key o else wide_key o) (some_now (narrow_key o))

  size_now : (o : ℤ) → slot_size slots o ≡ slot_size s.slots o
  size_now o =
      ap (λ (b : Bool). if b then 4 else (if is_some (value_at slots (wide_key o)) then 8 else 0)) (some_now (narrow_key o))
      ∙ ap (λ (b : Bool). if is_some (value_at s.slots (narrow_key o)) then 4 else (if b then 8 else 0)) (some_now (wide_key o))

  there_now : (p : Spot) → is_there now p ≡ is_there s p
  there_now (Reg r) = refl
  there_now Flags = refl
  there_now (Slot o) = ap (λ (k : ℤ). is_some (value_at slots k)) (key_now o) ∙ some_now (slot_key s.slots o)

  number_now : (p : Spot) → class_number now p ≡ class_number s p
  number_now (Reg r) = refl
  number_now Flags = refl
  number_now (Slot o) = ap slot_number (key_now o)

  same_now : (p q : Spot) → is_same now p q ≡ is_same s p q
  same_now p q =
      let test_same : Bool → Bool → ℕ → ℕ → Bool = λ a b m n. is_place p q || (a && (b && (root s.classes m == root s.classes n))) in
      ap (λ (a : Bool). test_same a (is_there now q) (class_number now p) (class_number now q)) (there_now p)
      ∙ ap (λ (b : Bool). test_same (is_there s p) b (class_number now p) (class_number now q)) (there_now q)
      ∙ ap (λ (m : ℕ). test_same (is_there s p) (is_there s q) m (class_number now q)) (number_now p)
      ∙ ap (λ (n : ℕ). test_same (is_there s p) (is_there s q) (class_number s p) n) (number_now q)

  absent_now : (p : Spot) → is_there s p ≡ false → value_of now p ≡ Any
  absent_now (Reg r) absent =
      let size = of_row.seventeen in
      elim (cases_lt r 17) [
        | inl less ↦ absurd (let never : true ≡ false = sym (lt-ltb r 17 less) ∙ absent in cc)
        | inr more ↦ ap (λ (x : Register). x.value) (unknown_at registers r (omega arith))
      ]
  absent_now Flags absent = refl
  absent_now (Slot o) absent = ap value_or_any (no_some (value_at slots (slot_key slots o)) (there_now (Slot o) ∙ absent))

  there_value : (p : Spot) → p ≢ Flags → is_there s p ≡ true → value_of now p ≡ g (class_number s p) (value_of s p)
  there_value (Reg r) other there = ap (λ (x : Register). x.value) (of_row.registers r (ltb-true r 17 there))
  there_value Flags other there = absurd (other refl)
  there_value (Slot o) other there =
      ap (λ (k : ℤ). value_or_any (value_at slots k)) (key_now o)
      ∙ ap value_or_any (of_slots.values (slot_key s.slots o))
      ∙ mapped (value_at s.slots (slot_key s.slots o)) there
    where
      mapped : (x : Option Value) → is_some x ≡ true → value_or_any (option_map (g (slot_number (slot_key s.slots o))) x) ≡ g (slot_number (slot_key s.slots o)) (value_or_any x)
      mapped None h = absurd (cc)
      mapped (Some v) h = refl

  offset_now : (r : ℕ) → (register_at registers r).offset ≡ (register_at s.registers r).offset
  offset_now r = elim (cases_lt r 17) [
    | inl less ↦ ap (λ (x : Register). x.offset) (of_row.registers r less)
    | inr more ↦
        let size = of_row.seventeen in
        let before = is_s.registers.seventeen in
        ap (λ (x : Register). x.offset) (unknown_at registers r (omega arith)) ∙ sym (ap (λ (x : Register). x.offset) (unknown_at s.registers r (omega arith)))
  ]

  -- ---- the form

  module _ (h : Spot → Value → Value) (here : (p : Spot) → p ≢ Flags → is_there s p ≡ true → (v : Value) → g (class_number s p) v ≡ h p v) (nothing : (p : Spot) → h p Any ≡ Any) where
    absent_value : (p : Spot) → is_there s p ≡ false → value_of now p ≡ h p (value_of s p)
    absent_value p absent = absent_now p absent ∙ sym (nothing p) ∙ sym (ap (h p) (value_absent s p is_s absent))

    value_now : (p : Spot) → value_of now p ≡ h p (value_of s p)
    value_now (Reg r) = elim (true_or_false (is_there s (Reg r))) [
      | inl there ↦ there_value (Reg r) (λ e. cc) there ∙ here (Reg r) (λ e. cc) there (value_of s (Reg r))
      | inr absent ↦ absent_value (Reg r) absent
    ]
    value_now Flags = sym (nothing Flags)
    value_now (Slot o) = elim (true_or_false (is_there s (Slot o))) [
      | inl there ↦ there_value (Slot o) (λ e. cc) there ∙ here (Slot o) (λ e. cc) there (value_of s (Slot o))
      | inr absent ↦ absent_value (Slot o) absent
    ]

    pub each_form : abstract_of now ≡ record (abstract_of s) { values = λ p. h p (value_of s p) }
    each_form = form_same (abstract_of now) (record (abstract_of s) { values = λ p. h p (value_of s p) }) offset_now value_now size_now same_now refl refl (λ o. refl)

  -- ---- the state stays one

  module _ (of_registers : (r : ℕ) → r < 17 → IsRegister (with_value_by g r (register_at s.registers r)))
      (of_values : (key : ℤ) (v : Value) → value_at s.slots key ≡ Some v → IsValue (g (slot_number key) v))
      (of_narrow : (o : ℤ) (v : Value) → value_at s.slots (narrow_key o) ≡ Some v → IsNarrow (g (slot_number (narrow_key o)) v)) where
    row_now : (r : ℕ) → IsRegister (register_at registers r)
    row_now r = elim (cases_lt r 17) [
      | inl less ↦ subst (λ (x : Register). IsRegister x) (sym (of_row.registers r less)) (of_registers r less)
      | inr more ↦
          let size = of_row.seventeen in
          subst (λ (x : Register). IsRegister x) (sym (unknown_at registers r (omega arith))) (record { value = tt; offset = tt })
    ]

    -- where a slot's value comes from
    slot_from : (key : ℤ) (w : Value) → value_at slots key ≡ Some w → (v : Value) × (value_at s.slots key ≡ Some v) × (g (slot_number key) v ≡ w)
    slot_from key w found = unmapped (g (slot_number key)) (value_at s.slots key) w (sym (of_slots.values key) ∙ found)

    slots_now : AreSlots slots
    slots_now = record {
      ascending = of_slots.ascending;
      within = λ key has. let from = slot_from key has.0 has.1 in is_s.slots.within key (from.0, from.1);
      values = λ key w found. let from = slot_from key w found in subst (λ (v : Value). IsValue v) from.2 (of_values key from.0 from.1);
      narrow = λ o w found. let from = slot_from (narrow_key o) w found in subst (λ (v : Value). IsNarrow v) from.2 (of_narrow o from.0 from.1);
      apart = λ o wide narrow.
          let from_wide = slot_from (wide_key o) wide.0 wide.1 in
          let from_narrow = slot_from (narrow_key o) narrow.0 narrow.1 in
          is_s.slots.apart o (from_wide.0, from_wide.1) (from_narrow.0, from_narrow.1);
    }

    still : (a : ℕ) → IsThere s.slots a → IsThere slots a
    still a (inl low) = inl low
    still a (inr has) = inr (g (slot_number (key_of a)) has.0, of_slots.values (key_of a) ∙ ap (option_map (g (slot_number (key_of a)))) has.1)

    pub each_state : IsState now
    each_state = record {
      registers = record { seventeen = of_row.seventeen; registers = row_now };
      probed = is_s.probed;
      ranges = is_s.ranges;
      frame = is_s.frame;
      slots = slots_now;
      classes = is_s.classes;
      named = λ a b same apart. still a (is_s.named a b same apart);
      fact = is_s.fact;
    }

    pub each_fits : (bounds : List ℕ) → ((r : ℕ) → r < 17 → IsAmong bounds (g r (register_at s.registers r).value)) → ((key : ℤ) (v : Value) → value_at s.slots key ≡ Some v → IsAmong bounds (g (slot_number key) v)) → Fits bounds now
    each_fits bounds in_registers among = record {
      registers = λ r. elim (cases_lt r 17) [
        | inl less ↦ subst (λ (y : Register). IsAmong bounds y.value) (sym (of_row.registers r less)) (in_registers r less)
        | inr more ↦
            let size = of_row.seventeen in
            subst (λ (y : Register). IsAmong bounds y.value) (sym (unknown_at registers r (omega arith))) tt
      ];
      slots = λ key w found. let from = slot_from key w found in subst (λ (v : Value). IsAmong bounds v) from.2 (among key from.0 from.1);
    }

  -- ---- the answer tells whether each place passes

  abbrev pub Pass : Type 0
  Pass = (p : Spot) → p ≢ Flags → is_there s p ≡ true → test (class_number s p) (value_of s p) ≡ true

  pass_to : in_row ≡ true → in_slots ≡ true → Pass
  pass_to row_is slots_is (Reg r) other there = of_row.edge.0 row_is r (ltb-true r 17 there)
  pass_to row_is slots_is Flags other there = absurd (other refl)
  pass_to row_is slots_is (Slot o) other there = go (value_at s.slots (slot_key s.slots o)) refl there
    where
      go : (x : Option Value) → value_at s.slots (slot_key s.slots o) ≡ x → is_some x ≡ true → test (slot_number (slot_key s.slots o)) (value_or_any x) ≡ true
      go None found h = absurd (cc)
      go (Some v) found h = of_slots.edge.0 slots_is (slot_key s.slots o) v found

  slot_pass : Pass → (key : ℤ) (v : Value) → value_at s.slots key ≡ Some v → test (slot_number key) v ≡ true
  slot_pass pass key v found =
      let at = place_of s key v is_s found in
      let found_o : value_at s.slots (slot_key s.slots at.0) ≡ Some v = ap (λ (k : ℤ). value_at s.slots k) at.1 ∙ found in
      let value : value_of s (Slot at.0) ≡ v = ap value_or_any found_o in
      sym (ap (λ (k : ℤ). test (slot_number k) v) at.1)
      ∙ sym (ap (λ (x : Value). test (slot_number (slot_key s.slots at.0)) x) value)
      ∙ pass (Slot at.0) (λ e. cc) (ap is_some found_o)

  pub each_passes : ((in_row && in_slots) ≡ true) ↔ Pass
  each_passes = (
    λ told. let parts = and_both in_row in_slots told in pass_to parts.0 parts.1,
    λ pass. both_and in_row in_slots (of_row.edge.1 (λ r less. pass (Reg r) (λ e. cc) (lt-ltb r 17 less))) (of_slots.edge.1 (slot_pass pass)),
  )
