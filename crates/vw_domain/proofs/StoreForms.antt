-- Bytes of the frame are written: the abstract form is that of the definition.
use Rattle.std.proofs.Common.{◌≡◌, ◌≢◌, ℕ, ◌^◌, ◌<◌, ◌≤◌, ◌⊎◌, List, refl, sym, ap, subst, ◌∙◌, arith, Some, None, inl, inr, Bool, true, false, is_some}
use Rattle.std.proofs.lemmas.Int.{ints}
use Rattle.std.proofs.lemmas.Bool.{ltb-true}
use Rattle.std.proofs.lemmas.Bool.Decides.{Decides-int_eq}
use Rattle.std.specs.Ordering.{int_eq}
use Rattle.std.specs.Prelude.{ℤ, pos, ◌+ℤ◌, ◌-ℤ◌, ◌≤ℤ◌, ◌<ℤ◌, Option, ◌↔◌, ◌||◌, ◌&&◌, int_lt, if◌then◌else◌}
use Rattle.vw_lattice.specs.Entries.{value_at}
use Rattle.vw_locals.specs.Ranges.{IsRanges, is_written, is_between}
use Rattle.vw_names.specs.declared.spot.Spot.{Spot}
use Rattle.vw_names.specs.declared.spot.Spot.TheVariants.{Reg, Flags, Slot}
use Rattle.vw_names.specs.Division.{root, Same, IsAlone, IsDivision}
use Rattle.vw_names.specs.Spot.{slot_number}
use Rattle.vw_values.specs.declared.value.Value.{Value}
use Rattle.vw_values.specs.declared.value.Value.TheVariants.{Any}
use Rattle.vw_domain.specs.declared.parts.Fact.{Fact}
use Rattle.vw_domain.specs.declared.parts.Parts.{Parts}
use Rattle.vw_domain.specs.declared.registers.Register.{Register}
use Rattle.vw_domain.specs.Registers.{register_at, IsRow}
use Rattle.vw_domain.specs.State.{AreSlots, IsState, IsNamed, IsInFrame, IsFact, key_of}
use Rattle.vw_domain.specs.Abstract.{abstract_of, slot_key, slot_size, value_of, value_or_any, is_there, class_number}
use Rattle.vw_domain.specs.Changes.{value_from, is_lost, store_from, fresh_slot, store_frame}
use Rattle.vw_domain.specs.Stores.{is_overlapped}
use Rattle.vw_domain.proofs.Lowers.{true_not_false, or_cases, and_both}
use Rattle.vw_domain.proofs.SameLemmas.{Moves, moved_same}
use Rattle.vw_domain.proofs.ForgetLemmas.{forget_none}
use Rattle.vw_domain.proofs.WriteLemmas.{form_same, key_back}
use Rattle.vw_domain.proofs.LeaveLemmas.{between_low}
use Rattle.vw_domain.proofs.GroupLemmas.{Comes, regroup_moves}
use Rattle.vw_domain.proofs.StoreLemmas.{Left, Stays, Goes, slot_case, low_kept}

-- the slots with these numbers are overlapped
abbrev pub is_gone_at : ℤ → ℕ → ℕ → Bool
is_gone_at c n a = is_overlapped c n (key_of a)

-- what is known at and beside offset c
pub record Stored (s t : Parts) (c : ℤ) (n size : ℕ) (src : Option Spot) (v : Value) : Type 0 where
  pub left : (o : ℤ) → o ≢ c → Left s t.slots c n o
  pub slot : slot_size t.slots c ≡ size
  pub number : value_of t (Slot c) ≡ value_from (value_of s) v src
  pub come : (a : Spot) → src ≡ Some a → Comes s t (is_gone_at c n) (Slot c) a
  pub alone : src ≡ None → is_there t (Slot c) ≡ true → IsAlone t.classes (class_number t (Slot c))
  pub others : (a b : ℕ) → is_gone_at c n a ≡ false → is_gone_at c n b ≡ false → Same t.classes a b ↔ Same s.classes a b
  pub registers : t.registers ≡ s.registers
  pub probed : t.probed ≡ s.probed
  pub fact : t.fact ≡ s.fact
  pub written : (x : ℤ) → is_written t.written x ≡ ((is_between c (c +ℤ pos n) x && int_lt x (pos 0)) || is_written s.written x)

pub offset_tells : (o c : ℤ) → ((int_eq o c ≡ true) × (o ≡ c)) ⊎ ((int_eq o c ≡ false) × (o ≢ c))
offset_tells o c = go (int_eq o c) refl
  where
    go : (b : Bool) → int_eq o c ≡ b → ((int_eq o c ≡ true) × (o ≡ c)) ⊎ ((int_eq o c ≡ false) × (o ≢ c))
    go true h = inl (h, (Decides-int_eq o c).0 h)
    go false h = inr (h, λ same. true_not_false (sym ((Decides-int_eq o c).1 same) ∙ h))

some_is : (x : Option Value) → x ≡ None → is_some x ≡ true → ⊥
some_is x none there = true_not_false (sym there ∙ ap is_some none)

module _ (s t : Parts) (c : ℤ) (n size : ℕ) (src : Option Spot) (v : Value) (low : (pos 0 -ℤ pos (2 ^ 32)) ≤ℤ c) (is_s : IsState s) (are : AreSlots t.slots) (st : Stored s t c n size src v) where
  abbrev gone : ℕ → Bool
  gone = is_gone_at c n

  abbrev from : Spot → Option Spot
  from = store_from (abstract_of s) c n src

  abbrev lost : ℤ → Bool
  lost = is_lost (abstract_of s) c n

  abbrev from_by : ℤ → Bool → Bool → Option Spot
  from_by o here is_gone = if here then src else (if is_gone then None else Some (Slot o))

  from_here : (o : ℤ) → int_eq o c ≡ true → from (Slot o) ≡ src
  from_here o here = ap (λ (b : Bool). from_by o b (lost o)) here

  from_stays : (o : ℤ) → int_eq o c ≡ false → lost o ≡ false → from (Slot o) ≡ Some (Slot o)
  from_stays o other stays = ap (λ (b : Bool). from_by o b (lost o)) other ∙ ap (from_by o false) stays

  from_goes : (o : ℤ) → int_eq o c ≡ false → lost o ≡ true → from (Slot o) ≡ None
  from_goes o other goes = ap (λ (b : Bool). from_by o b (lost o)) other ∙ ap (from_by o false) goes

  slot_now : (o : ℤ) → o ≢ c → Stays s t.slots c n o ⊎ Goes s t.slots c n o
  slot_now o other = slot_case s t.slots c n o is_s.slots (st.left o other)

  kept_slot : (o : ℤ) → Stays s t.slots c n o → Comes s t gone (Slot o) (Slot o)
  kept_slot o w =
      let there_new : is_there t (Slot o) ≡ true = ap (λ (k : ℤ). is_some (value_at t.slots k)) w.new_key ∙ ap is_some w.new in
      let there_old : is_there s (Slot o) ≡ true = ap (λ (k : ℤ). is_some (value_at s.slots k)) w.old_key ∙ ap is_some w.old in
      record {
        there = there_new ∙ sym there_old;
        stays = inl there_old;
        left = λ there.
            ap (λ (k : ℤ). is_overlapped c n (key_of (slot_number k))) w.old_key
            ∙ ap (is_overlapped c n) (key_back w.key (is_s.slots.within w.key (w.value, w.old)).0)
            ∙ w.kept;
        together = λ there. ap (λ (k : ℤ). root t.classes (slot_number k)) (w.new_key ∙ sym w.old_key);
      }

  kept_register : (q : ℕ) → Comes s t gone (Reg q) (Reg q)
  kept_register q = record {
    there = refl;
    stays = inr refl;
    left = λ there. let is : q < 17 = ltb-true q 17 there in low_kept c n low q (omega arith);
    together = λ there. refl;
  }

  kept_flags : Comes s t gone Flags Flags
  kept_flags = record {
    there = refl;
    stays = inr refl;
    left = λ there. low_kept c n low 256 (omega arith);
    together = λ there. refl;
  }

  comes : (p a : Spot) → from p ≡ Some a → Comes s t gone p a
  comes (Reg q) a is =
      let same : Reg q ≡ a = cc in
      subst (λ (x : Spot). Comes s t gone (Reg q) x) same (kept_register q)
  comes Flags a is =
      let same : Flags ≡ a = cc in
      subst (λ (x : Spot). Comes s t gone Flags x) same kept_flags
  comes (Slot o) a is = elim (offset_tells o c) [
    | inl here ↦ subst (λ (x : ℤ). Comes s t gone (Slot x) a) (sym here.1) (st.come a (sym (from_here o here.0) ∙ is))
    | inr other ↦ elim (slot_now o other.1) [
      | inl w ↦
          let found : Some (Slot o) ≡ Some a = sym (from_stays o other.0 w.lost) ∙ is in
          let same : Slot o ≡ a = cc in
          subst (λ (x : Spot). Comes s t gone (Slot o) x) same (kept_slot o w)
      | inr w ↦
          let found : None ≡ Some a = sym (from_goes o other.0 w.lost) ∙ is in
          absurd (cc)
    ]
  ]

  alone : (p : Spot) → from p ≡ None → is_there t p ≡ true → IsAlone t.classes (class_number t p)
  alone (Reg q) is there = absurd (cc)
  alone Flags is there = absurd (cc)
  alone (Slot o) is there = elim (offset_tells o c) [
    | inl here ↦
        subst (λ (x : ℤ). IsAlone t.classes (class_number t (Slot x))) (sym here.1)
        (st.alone (sym (from_here o here.0) ∙ is) (subst (λ (x : ℤ). is_there t (Slot x) ≡ true) here.1 there))
    | inr other ↦ elim (slot_now o other.1) [
      | inl w ↦
          let found : Some (Slot o) ≡ None = sym (from_stays o other.0 w.lost) ∙ is in
          absurd (cc)
      | inr w ↦ absurd (some_is (value_at t.slots (slot_key t.slots o)) w.none there)
    ]
  ]

  moves : Moves s t from
  moves = regroup_moves s t gone from are (record { comes = comes; alone = alone; others = st.others })

  abbrev fresh : Spot → Value
  fresh = fresh_slot c v

  value_now : (p : Spot) → value_of t p ≡ (store_frame (abstract_of s) c n size src v).values p
  value_now (Reg q) = ap (λ (row : List Register). (register_at row q).value) st.registers ∙ sym (forget_none (register_at s.registers q).value)
  value_now Flags = refl
  value_now (Slot o) =
      let back : Value = value_from (value_of s) (fresh (Slot o)) (from (Slot o)) in
      let is : value_of t (Slot o) ≡ back = elim (offset_tells o c) [
        | inl here ↦
            ap (λ (x : ℤ). value_of t (Slot x)) here.1 ∙ st.number
            ∙ sym (ap (value_from (value_of s) (fresh (Slot o))) (from_here o here.0) ∙ ap (λ (b : Bool). value_from (value_of s) (if b then v else Any) src) here.0)
        | inr other ↦ elim (slot_now o other.1) [
          | inl w ↦
              ap (λ (k : ℤ). value_or_any (value_at t.slots k)) w.new_key ∙ ap value_or_any w.new
              ∙ sym (ap (value_from (value_of s) (fresh (Slot o))) (from_stays o other.0 w.lost) ∙ ap (λ (k : ℤ). value_or_any (value_at s.slots k)) w.old_key ∙ ap value_or_any w.old)
          | inr w ↦
              ap value_or_any w.none
              ∙ sym (ap (value_from (value_of s) (fresh (Slot o))) (from_goes o other.0 w.lost) ∙ ap (λ (b : Bool). if b then v else Any) other.0)
        ]
      ] in
      is ∙ sym (forget_none back)

  size_now : (o : ℤ) → slot_size t.slots o ≡ (store_frame (abstract_of s) c n size src v).sizes o
  size_now o =
      let back : Bool → Bool → ℕ = λ here is_gone. if here then size else (if is_gone then 0 else slot_size s.slots o) in
      elim (offset_tells o c) [
        | inl here ↦ ap (slot_size t.slots) here.1 ∙ st.slot ∙ sym (ap (λ (b : Bool). back b (lost o)) here.0)
        | inr other ↦ elim (slot_now o other.1) [
          | inl w ↦ w.size ∙ sym (ap (λ (b : Bool). back b (lost o)) other.0 ∙ ap (back false) w.lost)
          | inr w ↦ w.size ∙ sym (ap (λ (b : Bool). back b (lost o)) other.0 ∙ ap (back false) w.lost)
        ]
      ]

  pub stored_form : abstract_of t ≡ store_frame (abstract_of s) c n size src v
  stored_form = form_same (abstract_of t) (store_frame (abstract_of s) c n size src v)
      (λ r. ap (λ (row : List Register). (register_at row r).offset) st.registers)
      value_now size_now (moved_same s t from moves) st.fact st.probed st.written

  frame_now : IsInFrame t.written
  frame_now x is = elim (or_cases (is_between c (c +ℤ pos n) x && int_lt x (pos 0)) (is_written s.written x) (sym (st.written x) ∙ is)) [
    | inl new ↦
        let both = and_both (is_between c (c +ℤ pos n) x) (int_lt x (pos 0)) new in
        in_frame x (between_low c (c +ℤ pos n) x both.0) both.1
    | inr old ↦ is_s.frame x old
  ]
    where
      below : (z : ℤ) → int_lt z (pos 0) ≡ true → z <ℤ pos 0
      below z h = grind (arith, ints)

      in_frame : (z : ℤ) → c ≤ℤ z → int_lt z (pos 0) ≡ true → ((pos 0 -ℤ pos (2 ^ 32)) ≤ℤ z) × (z <ℤ pos 0)
      in_frame z from less = (omega (arith, ints), below z less)

  pub stored_state : IsRanges t.written → IsDivision t.classes → IsNamed t.slots t.classes → IsState t
  stored_state ranges division named = record {
    registers = subst (λ (row : List Register). IsRow row) (sym st.registers) is_s.registers;
    probed = subst (λ (x : ℕ). x ≤ 2 ^ 32) (sym st.probed) is_s.probed;
    ranges = ranges;
    frame = frame_now;
    slots = are;
    classes = division;
    named = named;
    fact = subst (λ (x : Fact). IsFact x) (sym st.fact) is_s.fact;
  }
