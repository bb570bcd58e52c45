-- All slots are lost: the state stays one, and its abstract form is that of the definition.
use Rattle.std.proofs.Common.{◌≡◌, ℕ, ◌+◌, ◌^◌, ◌<◌, ◌≤◌, ◌⊎◌, List, refl, sym, ap, subst, ◌∙◌, arith, Some, None, inl, inr, true, false, is_some}
use Rattle.std.proofs.lemmas.Int.{ints}
use Rattle.std.proofs.lemmas.Bool.{ltb-true, cases_lt}
use Rattle.std.specs.Prelude.{ℤ, pos, negsuc, ◌-ℤ◌, ◌≤ℤ◌, ◌<ℤ◌, Option, ◌↔◌}
use Rattle.vw_lattice.specs.Entries.{IsAscending, value_at, HasKey}
use Rattle.vw_names.specs.declared.spot.Spot.{Spot}
use Rattle.vw_names.specs.declared.spot.Spot.TheVariants.{Reg, Flags, Slot}
use Rattle.vw_names.specs.Division.{IsDivision, Same, LeavesBetween}
use Rattle.vw_names.specs.Spot.{slot_number}
use Rattle.vw_values.specs.declared.value.Value.{Value}
use Rattle.vw_domain.specs.declared.parts.Parts.{Parts}
use Rattle.vw_domain.specs.Registers.{register_at}
use Rattle.vw_domain.specs.State.{wide_key, narrow_key, IsState, IsNamed, IsThere, key_of, Fits}
use Rattle.vw_domain.specs.Abstract.{abstract_of, slot_key, slot_size, value_of, value_or_any, is_there, class_number}
use Rattle.vw_domain.specs.Changes.{lose_from, lose_slots}
use Rattle.vw_domain.proofs.SameLemmas.{Moves, moved_same}
use Rattle.vw_domain.proofs.ForgetLemmas.{forget_none}
use Rattle.vw_domain.proofs.WriteLemmas.{form_same}

-- the least key of a slot, and the first one behind all
abbrev lowest : ℤ
lowest = pos 0 -ℤ pos (2 ^ 33)

abbrev behind : ℤ
behind = pos (2 ^ 33 + 2)

-- the keys are cut, and the slots leave their classes
pub record Loses (s : Parts) (slots : List (ℤ × Value)) (classes : List (ℕ × ℕ)) : Type 0 where
  pub ascending : IsAscending slots
  pub inside : (key : ℤ) → lowest ≤ℤ key → key <ℤ behind → value_at slots key ≡ None
  pub outside : (key : ℤ) → (key <ℤ lowest) ⊎ (behind ≤ℤ key) → value_at slots key ≡ value_at s.slots key
  pub leaves : LeavesBetween (slot_number lowest) (slot_number behind) s.classes classes
  pub division : IsDivision classes

pub none_or_some : (x : Option Value) → (x ≡ None) ⊎ ((v : Value) × (x ≡ Some v))
none_or_some None = inl refl
none_or_some (Some v) = inr (v, refl)

some_is : (x : Option Value) → x ≡ None → is_some x ≡ true → ⊥
some_is x none there =
    let no : is_some x ≡ false = ap is_some none in
    cc

module _ (s : Parts) (slots : List (ℤ × Value)) (classes : List (ℕ × ℕ)) (is_s : IsState s) (l : Loses s slots classes) where
  abbrev now : Parts
  now = record s { slots = slots; classes = classes }

  none_left : (key : ℤ) → value_at slots key ≡ None
  none_left key = elim (none_or_some (value_at slots key)) [
    | inl none ↦ none
    | inr has ↦ elim (none_or_some (value_at s.slots key)) [
      | inl none ↦ elim (cases_key key) [
        | inl inside ↦ l.inside key inside.0 inside.1
        | inr outside ↦ l.outside key outside ∙ none
      ]
      | inr had ↦
          let within = is_s.slots.within key had in
          let above : key <ℤ behind = omega (arith, ints) in
          l.inside key within.0 above
    ]
  ]
    where
      cases_key : (k : ℤ) → ((lowest ≤ℤ k) × (k <ℤ behind)) ⊎ ((k <ℤ lowest) ⊎ (behind ≤ℤ k))
      cases_key (pos n) = elim (cases_lt n (2 ^ 33 + 2)) [
        | inl less ↦ inl (omega (arith, ints), omega (arith, ints))
        | inr more ↦ inr (inr (omega (arith, ints)))
      ]
      cases_key (negsuc n) = elim (cases_lt n (2 ^ 33)) [
        | inl less ↦ inl (omega (arith, ints), omega (arith, ints))
        | inr more ↦ inr (inl (omega (arith, ints)))
      ]

  gone_slot : (o : ℤ) → is_there now (Slot o) ≡ true → ⊥
  gone_slot o there = some_is (value_at slots (slot_key slots o)) (none_left (slot_key slots o)) there

  size_now : (o : ℤ) → slot_size slots o ≡ 0
  size_now o = rw (none_left (narrow_key o), none_left (wide_key o)) refl

  low_number : (s : Parts) (q : ℕ) → is_there s (Reg q) ≡ true → q < slot_number lowest
  low_number s q there = let low = ltb-true q 17 there in omega arith

  -- a register or the flags
  abbrev IsNoSlot : Spot → Type 0
  IsNoSlot (Reg q) = Unit {0}
  IsNoSlot Flags = Unit {0}
  IsNoSlot (Slot o) = ⊥

  from_cases : (p a : Spot) → lose_from p ≡ Some a → (p ≡ a) × IsNoSlot p
  from_cases (Reg q) a from = (cc, tt)
  from_cases Flags a from = (cc, tt)
  from_cases (Slot o) a from = absurd (cc)

  from_none : (p : Spot) → lose_from p ≡ None → is_there now p ≡ true → ⊥
  from_none (Reg q) from there = cc
  from_none Flags from there = cc
  from_none (Slot o) from there = gone_slot o there

  there_same : (p : Spot) → IsNoSlot p → is_there now p ≡ is_there s p
  there_same (Reg q) is_none = refl
  there_same Flags is_none = refl
  there_same (Slot o) is_none = absurd is_none

  number_same : (p : Spot) → IsNoSlot p → class_number now p ≡ class_number s p
  number_same (Reg q) is_none = refl
  number_same Flags is_none = refl
  number_same (Slot o) is_none = absurd is_none

  number_low : (p : Spot) → IsNoSlot p → is_there s p ≡ true → class_number s p < slot_number lowest
  number_low (Reg q) is_none there = low_number s q there
  number_low Flags is_none there = omega arith
  number_low (Slot o) is_none there = absurd is_none

  moves : Moves s now lose_from
  moves = record {
    there = λ p a from there.
        let is = from_cases p a from in
        subst (λ (x : Spot). is_there s x ≡ true) is.0 (sym (there_same p is.1) ∙ there);
    here = λ p a from there.
        let is = from_cases p a from in
        there_same p is.1 ∙ subst (λ (x : Spot). is_there s x ≡ true) (sym is.0) there;
    stays = λ p a from. inr (from_cases p a from).0;
    alone = λ p q from together. absurd (from_none p from together.first);
    roots = λ p q a b from_p from_q there_a there_b.
        let is_p = from_cases p a from_p in
        let is_q = from_cases q b from_q in
        let there_p = subst (λ (x : Spot). is_there s x ≡ true) (sym is_p.0) there_a in
        let there_q = subst (λ (x : Spot). is_there s x ≡ true) (sym is_q.0) there_b in
        let kept = l.leaves.others (class_number s p) (class_number s q) (inl (number_low p is_p.1 there_p)) (inl (number_low q is_q.1 there_q)) in
        let R : ℕ → Type 0 = λ x. Same classes x (class_number now q) ↔ Same s.classes (class_number s a) (class_number s b) in
        let S : ℕ → Type 0 = λ x. Same classes (class_number s p) x ↔ Same s.classes (class_number s a) (class_number s b) in
        let A : Spot → Type 0 = λ x. Same classes (class_number s p) (class_number s q) ↔ Same s.classes (class_number s x) (class_number s b) in
        let B : Spot → Type 0 = λ x. Same classes (class_number s p) (class_number s q) ↔ Same s.classes (class_number s p) (class_number s x) in
        subst R (sym (number_same p is_p.1)) (subst S (sym (number_same q is_q.1)) (subst A is_p.0 (subst B is_q.0 kept)));
  }

  value_now : (p : Spot) → value_of now p ≡ (lose_slots (abstract_of s)).values p
  value_now (Reg q) = sym (forget_none (register_at s.registers q).value)
  value_now Flags = refl
  value_now (Slot o) = ap value_or_any (none_left (slot_key slots o))

  pub loss_form : abstract_of now ≡ lose_slots (abstract_of s)
  loss_form = form_same (abstract_of now) (lose_slots (abstract_of s)) (λ r. refl) value_now size_now (moved_same s now lose_from moves) refl refl (λ o. refl)

  no_key : (key : ℤ) → HasKey slots key → ⊥
  no_key key has =
      let found : None ≡ Some has.0 = sym (none_left key) ∙ has.1 in
      cc

  key_number : (a : ℕ) (key : ℤ) → key_of a ≡ key → lowest ≤ℤ key → key <ℤ behind → (slot_number lowest ≤ a) × (a < slot_number behind)
  key_number a (pos n) is low high = (omega (arith, ints), omega (arith, ints))
  key_number a (negsuc n) is low high = (omega (arith, ints), omega (arith, ints))

  named_now : IsNamed slots classes
  named_now a b same apart = elim (cases_lt a (slot_number lowest)) [
    | inl low_a ↦ outside (inl low_a)
    | inr from_a ↦ elim (cases_lt a (slot_number behind)) [
      | inl in_a ↦ absurd (apart (sym (l.leaves.alone a from_a in_a b same)))
      | inr high_a ↦ outside (inr high_a)
    ]
  ]
    where
      kept : (a < slot_number lowest) ⊎ (slot_number behind ≤ a) → IsThere s.slots a → IsThere slots a
      kept out (inl low) = inl low
      kept out (inr has) =
          let within = is_s.slots.within (key_of a) has in
          let above : key_of a <ℤ behind = omega (arith, ints) in
          let number = key_number a (key_of a) refl within.0 above in
          elim out [ inl low ↦ absurd (omega arith) | inr high ↦ absurd (omega arith) ]

      outside : (a < slot_number lowest) ⊎ (slot_number behind ≤ a) → IsThere slots a
      outside out_a = elim (cases_lt b (slot_number lowest)) [
        | inl low_b ↦ kept out_a (is_s.named a b ((l.leaves.others a b out_a (inl low_b)).0 same) apart)
        | inr from_b ↦ elim (cases_lt b (slot_number behind)) [
          | inl in_b ↦ absurd (apart (l.leaves.alone b from_b in_b a (sym same)))
          | inr high_b ↦ kept out_a (is_s.named a b ((l.leaves.others a b out_a (inr high_b)).0 same) apart)
        ]
      ]

  pub loss_state : IsState now
  loss_state = record {
    registers = is_s.registers;
    probed = is_s.probed;
    ranges = is_s.ranges;
    frame = is_s.frame;
    slots = record {
      ascending = l.ascending;
      within = λ key has. absurd (no_key key has);
      values = λ key v found. absurd (no_key key (v, found));
      narrow = λ o v found. absurd (no_key (narrow_key o) (v, found));
      apart = λ o wide narrow. no_key (wide_key o) wide;
    };
    classes = l.division;
    named = named_now;
    fact = is_s.fact;
  }

  pub loss_fits : (b : List ℕ) → Fits b s → Fits b now
  loss_fits b fits = record { registers = fits.registers; slots = λ key v found. absurd (no_key key (v, found)) }
