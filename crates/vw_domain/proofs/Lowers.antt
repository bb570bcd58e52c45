-- A lower state says more, and stands for less.
use Rattle.std.proofs.Common.{◌≡◌, ℕ, ◌⊎◌, List, refl, sym, ap, subst, ◌∙◌, arith, Some, None, inl, inr, Bool, true, false, ◌&&◌, ◌||◌, not, is_some, eq-eqb}
use Rattle.std.proofs.lemmas.Bool.{eqb-true}
use Rattle.std.proofs.lemmas.Bool.Decides.{Decides-int_eq}
use Rattle.vw_bits.specs.Fields.{load}
use Rattle.std.specs.Prelude.{ℤ, Option}
use Rattle.vw_lattice.specs.Entries.{value_at, map_below}
use Rattle.vw_names.specs.declared.spot.Spot.{Spot}
use Rattle.vw_names.specs.declared.spot.Spot.TheVariants.{Reg, Flags, Slot}
use Rattle.vw_names.specs.Division.{Same}
use Rattle.vw_names.specs.Spot.{slot_number}
use Rattle.vw_stack.specs.Stack.{offset_below}
use Rattle.vw_stack.specs.declared.offset.Offset.{Offset}
use Rattle.vw_stack.specs.declared.offset.Offset.TheVariants as offset
use Rattle.vw_values.specs.declared.value.Value.{Value}
use Rattle.vw_values.specs.Values.{value_below}
use Rattle.vw_values.specs.Stands.{Stands}
use Rattle.vw_values.specs.Laws.{GreaterStandsForMore}
use Rattle.vw_insn.specs.Words.{Flags as StatusFlags}
use Rattle.vw_domain.specs.declared.parts.Fact.{Fact}
use Rattle.vw_domain.specs.declared.parts.Fact.TheVariants as fact
use Rattle.vw_domain.specs.declared.parts.Parts.{Parts}
use Rattle.vw_domain.specs.State.{fact_below, wide_key, narrow_key, AreSlots, IsState, state_below}
use Rattle.vw_domain.specs.Abstract.{abstract_of, is_place, slot_key, slot_size, value_or_any, value_of, is_there, class_number, is_same, IsBelow}
use Rattle.vw_domain.specs.Stands.{Machine, at_offset, OffsetStands, content, FactStands, StandsWith}
use Rattle.vw_domain.proofs.Orders.{under_of}
use Rattle.vw_domain.proofs.Lower.{clash_under, tag_under}

-- ---- tests

pub true_not_false : true ≡ false → ⊥
true_not_false same = cc

pub and_both : (a b : Bool) → (a && b) ≡ true → (a ≡ true) × (b ≡ true)
and_both true b h = (refl, h)
and_both false b h = absurd (true_not_false (sym h))

pub both_and : (a b : Bool) → a ≡ true → b ≡ true → (a && b) ≡ true
both_and true b first second = second
both_and false b first second = absurd (true_not_false (sym first))

pub or_cases : (a b : Bool) → (a || b) ≡ true → (a ≡ true) ⊎ (b ≡ true)
or_cases true b h = inl refl
or_cases false b h = inr h

pub or_second : (a b : Bool) → b ≡ true → (a || b) ≡ true
or_second true b h = refl
or_second false b h = h

pub or_first : (a b : Bool) → a ≡ true → (a || b) ≡ true
or_first true b h = refl
or_first false b h = absurd (true_not_false (sym h))

-- ---- slots

there_or_none : (x : Option Value) → ((v : Value) × (x ≡ Some v)) ⊎ (x ≡ None)
there_or_none None = inr refl
there_or_none (Some v) = inl (v, refl)

module _ (slots : List (ℤ × Value)) (o : ℤ) where
  narrow_key_is : (v : Value) → value_at slots (narrow_key o) ≡ Some v → slot_key slots o ≡ narrow_key o
  narrow_key_is v found = rw found refl

  wide_key_is : value_at slots (narrow_key o) ≡ None → slot_key slots o ≡ wide_key o
  wide_key_is none = rw none refl

  narrow_size : (v : Value) → value_at slots (narrow_key o) ≡ Some v → slot_size slots o ≡ 4
  narrow_size v found = rw found refl

  wide_size : (v : Value) → value_at slots (narrow_key o) ≡ None → value_at slots (wide_key o) ≡ Some v → slot_size slots o ≡ 8
  wide_size v none found = rw (none, found) refl

  no_size : value_at slots (narrow_key o) ≡ None → value_at slots (wide_key o) ≡ None → slot_size slots o ≡ 0
  no_size none nothing = rw (none, nothing) refl

-- the slot at an offset is there in the lower and in the greater state, with one size and a lower value
pub record Slots (low high : List (ℤ × Value)) (o : ℤ) : Type 0 where
  pub key : ℤ
  pub low_key : slot_key low o ≡ key
  pub high_key : slot_key high o ≡ key
  pub size : slot_size low o ≡ slot_size high o
  pub lesser : Value
  pub greater : Value
  pub in_low : value_at low key ≡ Some lesser
  pub in_high : value_at high key ≡ Some greater
  pub below : value_below lesser greater

-- it is not there in the greater one
pub record NoSlot (high : List (ℤ × Value)) (o : ℤ) : Type 0 where
  pub size : slot_size high o ≡ 0
  pub none : value_at high (slot_key high o) ≡ None

slots_cases : (low high : List (ℤ × Value)) (o : ℤ) → AreSlots low → map_below value_below low high → Slots low high o ⊎ NoSlot high o
slots_cases low high o are below =
    elim (there_or_none (value_at high (narrow_key o))) [
      | inl n ↦
          let l = below (narrow_key o) n.0 n.1 in
          inl (record { key = narrow_key o; low_key = narrow_key_is low o l.0 l.1; high_key = narrow_key_is high o n.0 n.1; size = narrow_size low o l.0 l.1 ∙ sym (narrow_size high o n.0 n.1); lesser = l.0; greater = n.0; in_low = l.1; in_high = n.1; below = l.2 })
      | inr none ↦ elim (there_or_none (value_at high (wide_key o))) [
        | inl w ↦
            let l = below (wide_key o) w.0 w.1 in
            elim (there_or_none (value_at low (narrow_key o))) [
              | inl n ↦ absurd (are.apart o (l.0, l.1) n)
              | inr low_none ↦ inl (record { key = wide_key o; low_key = wide_key_is low o low_none; high_key = wide_key_is high o none; size = wide_size low o l.0 low_none l.1 ∙ sym (wide_size high o w.0 none w.1); lesser = l.0; greater = w.0; in_low = l.1; in_high = w.1; below = l.2 })
            ]
        | inr nothing ↦ inr (record { size = no_size high o none nothing; none = ap (λ (k : ℤ). value_at high k) (wide_key_is high o none) ∙ nothing })
      ]
    ]

module _ (low high : List (ℤ × Value)) (o : ℤ) (both : Slots low high o) where
  low_found : value_at low (slot_key low o) ≡ Some both.lesser
  low_found = ap (λ (k : ℤ). value_at low k) both.low_key ∙ both.in_low

  high_found : value_at high (slot_key high o) ≡ Some both.greater
  high_found = ap (λ (k : ℤ). value_at high k) both.high_key ∙ both.in_high

  low_value : value_or_any (value_at low (slot_key low o)) ≡ both.lesser
  low_value = ap value_or_any low_found

  high_value : value_or_any (value_at high (slot_key high o)) ≡ both.greater
  high_value = ap value_or_any high_found

some_there : (x : Option Value) (v : Value) → x ≡ Some v → is_some x ≡ true
some_there x v same = rw same refl

none_there : (x : Option Value) → x ≡ None → is_some x ≡ true → ⊥
none_there x none has = true_not_false (sym has ∙ rw none refl)

-- ---- places

pub place_same : (p q : Spot) → is_place p q ≡ true → p ≡ q
place_same (Reg q) (Reg r) h = ap Reg (eqb-true q r h)
place_same Flags Flags h = refl
place_same (Slot a) (Slot b) h = ap Slot ((Decides-int_eq a b).0 h)
place_same (Reg q) Flags h = absurd (true_not_false (sym h))
place_same (Reg q) (Slot b) h = absurd (true_not_false (sym h))
place_same Flags (Reg r) h = absurd (true_not_false (sym h))
place_same Flags (Slot b) h = absurd (true_not_false (sym h))
place_same (Slot a) (Reg r) h = absurd (true_not_false (sym h))
place_same (Slot a) Flags h = absurd (true_not_false (sym h))

-- ---- values

-- the number in a place of a machine's state
abbrev content_of : Machine → (ℤ → ℕ) → ℕ → Spot → ℕ
content_of m sizes compared p = content m.entry_rsp sizes m.registers m.byte compared p

fact_stands : (a b : Fact) (x : ℕ) (flags : StatusFlags) → fact_below a b → FactStands a x flags → FactStands b x flags
fact_stands a fact.Unknown x flags f stands = tt
fact_stands fact.Unknown (fact.Compare w k) x flags f stands = absurd f
fact_stands (fact.Compare u i) (fact.Compare w k) x flags f stands = rw (← f.0, ← f.1) stands

offset_stands : (m : Machine) (a b : Offset) (x : ℕ) → offset_below a b → OffsetStands m.entry_rsp a x → OffsetStands m.entry_rsp b x
offset_stands m a offset.Unknown x f stands = tt
offset_stands m offset.Unknown (offset.Known c) x f stands = absurd f
offset_stands m (offset.Known d) (offset.Known c) x f stands = rw (← f) stands

-- ---- states

module _ (s t : Parts) (is_s : IsState s) (is_t : IsState t) (f : state_below s t) where
  slots_at : (o : ℤ) → Slots s.slots t.slots o ⊎ NoSlot t.slots o
  slots_at o = slots_cases s.slots t.slots o is_s.slots f.slots

  there_below : (p : Spot) → is_there t p ≡ true → is_there s p ≡ true
  there_below (Reg r) h = h
  there_below Flags h = refl
  there_below (Slot o) h = elim (slots_at o) [
    | inl both ↦ some_there (value_at s.slots (slot_key s.slots o)) both.lesser (low_found s.slots t.slots o both)
    | inr none ↦ absurd (none_there (value_at t.slots (slot_key t.slots o)) none.none h)
  ]

  number_below : (p : Spot) → is_there t p ≡ true → class_number t p ≡ class_number s p
  number_below (Reg r) h = refl
  number_below Flags h = refl
  number_below (Slot o) h = elim (slots_at o) [
    | inl both ↦ ap slot_number (both.high_key ∙ sym both.low_key)
    | inr none ↦ absurd (none_there (value_at t.slots (slot_key t.slots o)) none.none h)
  ]

  size_below : (p : Spot) → is_there t p ≡ true → (m : Machine) (x : ℕ) → content_of m (slot_size s.slots) x p ≡ content_of m (slot_size t.slots) x p
  size_below (Reg r) h m x = refl
  size_below Flags h m x = refl
  size_below (Slot o) h m x = elim (slots_at o) [
    | inl both ↦ ap (λ (n : ℕ). load m.byte (at_offset m.entry_rsp o) n) both.size
    | inr none ↦ absurd (none_there (value_at t.slots (slot_key t.slots o)) none.none h)
  ]

  -- two places of a class of the greater state
  record Together (p q : Spot) : Type 0 where
    first : is_there t p ≡ true
    second : is_there t q ≡ true
    roots : Same t.classes (class_number t p) (class_number t q)

  together : (p q : Spot) → is_same t p q ≡ true → (p ≡ q) ⊎ Together p q
  together p q h = elim (or_cases (is_place p q) _ h) [
    | inl place ↦ inl (place_same p q place)
    | inr both ↦
        let first = and_both (is_there t p) _ both in
        let second = and_both (is_there t q) _ first.1 in
        inr (record { first = first.0; second = second.0; roots = eqb-true _ _ second.1 })
  ]

  same_below : (p q : Spot) → is_same t p q ≡ true → is_same s p q ≡ true
  same_below p q h = elim (or_cases (is_place p q) _ h) [
    | inl place ↦ or_first (is_place p q) _ place
    | inr both ↦
        let first = and_both (is_there t p) _ both in
        let second = and_both (is_there t q) _ first.1 in
        let P : ℕ → Type 0 = λ a. Same s.classes a (class_number s q) in
        let Q : ℕ → Type 0 = λ b. Same s.classes (class_number t p) b in
        let roots = subst P (number_below p first.0) (subst Q (number_below q second.0) (f.classes (class_number t p) (class_number t q) (eqb-true _ _ second.1))) in
        or_second (is_place p q) _ (both_and (is_there s p) _ (there_below p first.0) (both_and (is_there s q) _ (there_below q second.0) (eq-eqb _ _ roots)))
  ]

  value_lower : (p : Spot) → value_below (value_of s p) (value_of t p)
  value_lower (Reg r) = (f.registers r).value
  value_lower Flags = tt
  value_lower (Slot o) = elim (slots_at o) [
    | inl both ↦
        let P : Value → Type 0 = λ v. value_below v (value_of t (Slot o)) in
        let Q : Value → Type 0 = λ w. value_below both.lesser w in
        subst P (sym (low_value s.slots t.slots o both)) (subst Q (sym (high_value s.slots t.slots o both)) both.below)
    | inr none ↦
        let Q : Value → Type 0 = λ w. value_below (value_of s (Slot o)) w in
        subst Q (sym (ap value_or_any none.none)) tt
  ]

  sizes_lower : (o : ℤ) → (slot_size t.slots o ≡ 0) ⊎ (slot_size s.slots o ≡ slot_size t.slots o)
  sizes_lower o = elim (slots_at o) [ inl both ↦ inr both.size | inr none ↦ inl none.size ]

  pub lower_form : IsBelow (abstract_of s) (abstract_of t)
  lower_form = record {
    offsets = λ r. (f.registers r).offset;
    values = value_lower;
    sizes = sizes_lower;
    same = same_below;
    fact = f.fact;
    probed = f.probed;
    written = f.written;
  }

  module _ (greater : GreaterStandsForMore) (m : Machine) (compared : ℕ) (st : StandsWith (abstract_of s) m compared) where
    value_stands : (p : Spot) → Stands m.instance m.registers (value_of t p) (content_of m (slot_size t.slots) compared p)
    value_stands (Reg r) = greater m.instance m.registers _ _ (m.registers r) (is_s.registers.registers r).value (is_t.registers.registers r).value (f.registers r).value (st.values (Reg r))
    value_stands Flags = tt
    value_stands (Slot o) = elim (slots_at o) [
      | inl both ↦
          let number : ℕ = content_of m (slot_size t.slots) compared (Slot o) in
          let P : Value → Type 0 = λ v. Stands m.instance m.registers v number in
          let Q : ℕ → Type 0 = λ n. Stands m.instance m.registers (value_of s (Slot o)) (load m.byte (at_offset m.entry_rsp o) n) in
          subst P (sym (high_value s.slots t.slots o both))
          (greater m.instance m.registers both.lesser both.greater number (is_s.slots.values both.key both.lesser both.in_low) (is_t.slots.values both.key both.greater both.in_high) both.below
          (subst P (low_value s.slots t.slots o both) (subst Q both.size (st.values (Slot o)))))
      | inr none ↦
          let P : Value → Type 0 = λ v. Stands m.instance m.registers v (content_of m (slot_size t.slots) compared (Slot o)) in
          subst P (sym (ap value_or_any none.none)) tt
    ]

    classes_stand : (p q : Spot) → is_same t p q ≡ true → content_of m (slot_size t.slots) compared p ≡ content_of m (slot_size t.slots) compared q
    classes_stand p q h = elim (together p q h) [
      | inl same ↦ ap (λ (r : Spot). content_of m (slot_size t.slots) compared r) same
      | inr both ↦ sym (size_below p both.first m compared) ∙ st.classes p q (same_below p q h) ∙ size_below q both.second m compared
    ]

    pub lower_stands : StandsWith (abstract_of t) m compared
    lower_stands = record {
      start = st.start;
      end = st.end;
      depth = let deep = f.probed in let low = st.depth in omega arith;
      offsets = λ r. offset_stands m _ _ (m.registers r) (f.registers r).offset (st.offsets r);
      written = λ c is. st.written c (f.written c is);
      word = st.word;
      values = value_stands;
      classes = classes_stand;
      fact = fact_stands s.fact t.fact compared m.flags f.fact st.fact;
      kinds = record {
        apart = λ at p q same first second. st.kinds.apart at p q (same_below p q same) (clash_under (not at) _ _ (under_of _ _ (value_lower p)) first) (clash_under at _ _ (under_of _ _ (value_lower q)) second);
        tags = λ p q g tag same clash. st.kinds.tags p q g (tag_under _ _ g (under_of _ _ (value_lower p)) tag) (same_below (Reg g.register) q same) (clash_under g.at _ _ (under_of _ _ (value_lower q)) clash);
      };
    }
