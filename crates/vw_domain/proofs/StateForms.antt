-- A change leaves the form of a state the form of a state.
use Rattle.std.proofs.Common.{◌≡◌, ◌≢◌, ℕ, ◌^◌, ◌<◌, ◌≤◌, ◌⊎◌, inl, inr, ◌==◌, refl, sym, ap, ◌∙◌, subst, arith}
use Rattle.std.specs.Prelude.{List, int_lt, nat_lt, nat_le, max, ◌≤ℤ◌, ◌-ℤ◌, Option, Some, None, Bool, true, false, if◌then◌else◌, ◌&&◌, ◌||◌, not, ℤ, pos, negsuc}
use Rattle.std.proofs.lemmas.Int.{ints}
use Rattle.std.proofs.lemmas.Bool.{eqb-true, false≢true, ltb-true}
use Rattle.std.proofs.lemmas.Bool.Decides.{Decides-int_eq}
use Rattle.std.specs.Ordering.{int_eq}
use Rattle.vw_names.specs.declared.spot.Spot.{Spot as Place}
use Rattle.vw_names.specs.declared.spot.Spot.TheVariants.{Reg as Register, Flags as Compared, Slot}
use Rattle.vw_stack.specs.declared.offset.Offset.{Offset}
use Rattle.vw_stack.specs.declared.offset.Offset.TheVariants.{Known, Unknown}
use Rattle.vw_values.specs.declared.value.Value.{Value}
use Rattle.vw_values.specs.declared.value.Value.TheVariants.{Any, Num, Const}
use Rattle.vw_domain.specs.declared.parts.Fact.{Fact}
use Rattle.vw_domain.specs.declared.parts.Fact.TheVariants as fact
use Rattle.vw_domain.specs.Registers.{IsWithin, OffsetFits}
use Rattle.vw_domain.specs.Abstract.{Abstract}
use Rattle.vw_domain.specs.Changes.{Change, forget, value_from, same_from, changed, write_from, writing_register, write, is_lost, covers, store_from, fresh_slot, store_frame, lose_from, lose_slots, flags_from, set_flags, stays_over, call_from, call_fresh, is_pushed, call}
use Rattle.vw_domain.specs.Calls.{reach, deeper_by, deeper}
use Rattle.vw_domain.specs.FormRanges.{IsForm, IsStateForm}
use Rattle.vw_domain.proofs.ChangeLaws.{is_place_true}
use Rattle.vw_domain.proofs.WriteLaws.{some_is, none_is}
use Rattle.vw_domain.proofs.SameLemmas.{place_is}
use Rattle.vw_domain.proofs.Lowers.{or_cases, and_both}

module _ (members : List ℕ) (st : Abstract) (valid : IsStateForm members st) where
  symmetric_by : (p q : Place) (a b : Option Place) → same_from st.same p q a b ≡ true → same_from st.same q p b a ≡ true
  symmetric_by p q None None e = place_is q p (sym (is_place_true p q e))
  symmetric_by p q (Some a) (Some b) e = valid.symmetric a b e
  symmetric_by p q None (Some b) e = absurd (false≢true e)
  symmetric_by p q (Some a) None e = absurd (false≢true e)

  transitive_by : (p q t : Place) (a b d : Option Place) → same_from st.same p q a b ≡ true → same_from st.same q t b d ≡ true → same_from st.same p t a d ≡ true
  transitive_by p q t None None None e f = place_is p t (is_place_true p q e ∙ is_place_true q t f)
  transitive_by p q t (Some a) (Some b) (Some d) e f = valid.transitive a b d e f
  transitive_by p q t None (Some b) d e f = absurd (false≢true e)
  transitive_by p q t (Some a) None d e f = absurd (false≢true e)
  transitive_by p q t None None (Some d) e f = absurd (false≢true f)
  transitive_by p q t (Some a) (Some b) None e f = absurd (false≢true f)

  module _ (c : Change) where
    -- a register behind the last has no number, or that of the same one, which no other place has
    abbrev StaysUnknown : ℕ → Type 0
    StaysUnknown r = ((c.from (Register r) ≡ None) × (c.fresh (Register r) ≡ Any)) ⊎ ((c.from (Register r) ≡ Some (Register r)) × ((p : Place) → c.from p ≡ Some (Register r) → p ≡ Register r))

    value_by : (r : ℕ) → 17 ≤ r → StaysUnknown r → forget c.gone (value_from st.values (c.fresh (Register r)) (c.from (Register r))) ≡ Any
    value_by r far (inl n) = ap (λ (o : Option Place). forget c.gone (value_from st.values (c.fresh (Register r)) o)) n.0 ∙ ap (forget c.gone) n.1
    value_by r far (inr k) = ap (λ (o : Option Place). forget c.gone (value_from st.values (c.fresh (Register r)) o)) k.0 ∙ ap (forget c.gone) (valid.registers r far).value

    alone_by : (r : ℕ) → 17 ≤ r → StaysUnknown r → (p : Place) (b : Option Place) → c.from p ≡ b → same_from st.same (Register r) p (c.from (Register r)) b ≡ true → p ≡ Register r
    alone_by r far (inl n) p None e s = let P : Option Place → Type 0 = λ x. same_from st.same (Register r) p x None ≡ true in sym (is_place_true (Register r) p (subst P n.0 s))
    alone_by r far (inl n) p (Some b) e s = let P : Option Place → Type 0 = λ x. same_from st.same (Register r) p x (Some b) ≡ true in absurd (false≢true (subst P n.0 s))
    alone_by r far (inr k) p None e s = let P : Option Place → Type 0 = λ x. same_from st.same (Register r) p x None ≡ true in absurd (false≢true (subst P k.0 s))
    alone_by r far (inr k) p (Some b) e s =
        let P : Option Place → Type 0 = λ x. same_from st.same (Register r) p x (Some b) ≡ true in
        k.1 p (e ∙ ap Some ((valid.registers r far).alone b (subst P k.0 s)))

    changed_form : (offsets : ℕ → Offset) (sizes : ℤ → ℕ) (written : ℤ → Bool) (fact : Fact) (probed : ℕ)
        → probed ≤ 2 ^ 32
        → ((o : ℤ) → written o ≡ true → (pos 0 -ℤ pos (2 ^ 32)) ≤ℤ o)
        → ((o : ℤ) → sizes o ≢ 0 → IsWithin (2 ^ 32) o)
        → ((r : ℕ) → 17 ≤ r → (offsets r ≡ Unknown) × StaysUnknown r)
        → let after = record (changed st c) { offsets = offsets; sizes = sizes; written = written; fact = fact; probed = probed } in
        IsForm members after → IsStateForm members after
    changed_form offsets sizes written fact probed deep frame slots behind form = record {
      form = form;
      probed = deep;
      frame = frame;
      slots = slots;
      compared = refl;
      registers = λ r far. record {
        offset = (behind r far).0;
        value = value_by r far (behind r far).1;
        alone = λ p s. alone_by r far (behind r far).1 p (c.from p) refl s;
      };
      symmetric = λ p q e. symmetric_by p q (c.from p) (c.from q) e;
      transitive = λ p q t e f. transitive_by p q t (c.from p) (c.from q) (c.from t) e f;
    }

  -- no register behind the last
  abbrev pub IsInside : Option Place → Type 0
  IsInside None = Unit {0}
  IsInside (Some (Register r)) = r < 17
  IsInside (Some Compared) = Unit {0}
  IsInside (Some (Slot o)) = Unit {0}

  from_inside : (src : Option Place) (r : ℕ) {A : Type 0} → 17 ≤ r → IsInside src → src ≡ Some (Register r) → A
  from_inside None r far i e = absurd (none_is e)
  from_inside (Some (Register q)) r far i e = absurd (let x : Register q ≡ Register r = some_is e in let y : q ≡ r = cc in omega arith)
  from_inside (Some Compared) r far i e = absurd (let x : Compared ≡ Register r = some_is e in cc)
  from_inside (Some (Slot o)) r far i e = absurd (let x : Slot o ≡ Register r = some_is e in cc)

  pub write_form : (d : ℕ) (src : Option Place) (v : Value) (o : Offset) → d < 17 → IsInside src → IsForm members (write st d src v o) → IsStateForm members (write st d src v o)
  write_form d src v o low inside form =
      changed_form (writing_register d src v) (λ q. if q == d then o else st.offsets q) st.sizes st.written st.fact st.probed
      valid.probed valid.frame valid.slots (λ r far. (offset_of r far (r == d) refl, inr (source_of r far (r == d) refl, λ p e. comes r far p e))) form
    where
      offset_of : (r : ℕ) → 17 ≤ r → (b : Bool) → (r == d) ≡ b → (if b then o else st.offsets r) ≡ Unknown
      offset_of r far true e = absurd (let same = eqb-true r d e in omega arith)
      offset_of r far false e = (valid.registers r far).offset

      source_of : (r : ℕ) → 17 ≤ r → (b : Bool) → (r == d) ≡ b → (if b then src else Some (Register r)) ≡ Some (Register r)
      source_of r far true e = absurd (let same = eqb-true r d e in omega arith)
      source_of r far false e = refl

      from_register : (r q : ℕ) → 17 ≤ r → (b : Bool) → (if b then src else Some (Register q)) ≡ Some (Register r) → Register q ≡ Register r
      from_register r q far true e = from_inside src r far inside e
      from_register r q far false e = some_is e

      comes : (r : ℕ) → 17 ≤ r → (p : Place) → write_from d src p ≡ Some (Register r) → p ≡ Register r
      comes r far (Register q) e = from_register r q far (q == d) e
      comes r far Compared e = some_is e
      comes r far (Slot a) e = some_is e

  pub set_flags_form : (src : Option Place) (fact : Fact) → IsInside src → IsForm members (set_flags st src fact) → IsStateForm members (set_flags st src fact)
  set_flags_form src fact inside form =
      changed_form (record { from = flags_from src; fresh = λ p. Any; gone = λ r. false }) st.offsets st.sizes st.written fact st.probed
      valid.probed valid.frame valid.slots (λ r far. ((valid.registers r far).offset, inr (refl, λ p e. comes r far p e))) form
    where
      comes : (r : ℕ) → 17 ≤ r → (p : Place) → flags_from src p ≡ Some (Register r) → p ≡ Register r
      comes r far (Register q) e = some_is e
      comes r far Compared e = from_inside src r far inside e
      comes r far (Slot a) e = some_is e

  pub lose_form : IsForm members (lose_slots st) → IsStateForm members (lose_slots st)
  lose_form form =
      changed_form (record { from = lose_from; fresh = λ p. Any; gone = λ r. false }) st.offsets (λ o. 0) st.written st.fact st.probed
      valid.probed valid.frame (λ o there. absurd (there refl)) (λ r far. ((valid.registers r far).offset, inr (refl, λ p e. comes r far p e))) form
    where
      comes : (r : ℕ) → 17 ≤ r → (p : Place) → lose_from p ≡ Some (Register r) → p ≡ Register r
      comes r far (Register q) e = some_is e
      comes r far Compared e = some_is e
      comes r far (Slot a) e = absurd (none_is e)

  pub store_form : (c : ℤ) (n size : ℕ) (src : Option Place) (v : Value) → IsWithin (2 ^ 32) c → IsInside src → IsForm members (store_frame st c n size src v) → IsStateForm members (store_frame st c n size src v)
  store_form c n size src v near inside form =
      changed_form (record { from = store_from st c n src; fresh = fresh_slot c v; gone = λ r. false }) st.offsets _ _ st.fact st.probed
      valid.probed (λ o e. framed o e) (λ o there. slots o (int_eq o c) (is_lost st c n o) refl there)
      (λ r far. ((valid.registers r far).offset, inr (refl, λ p e. comes r far p e))) form
    where
      framed : (o : ℤ) → ((covers c n o && int_lt o (pos 0)) || st.written o) ≡ true → (pos 0 -ℤ pos (2 ^ 32)) ≤ℤ o
      framed o e = elim (or_cases (covers c n o && int_lt o (pos 0)) (st.written o) e) [
        | inl new ↦ covered o (and_both (covers c n o) (int_lt o (pos 0)) new).0
        | inr old ↦ valid.frame o old
      ]
        where
          covered : (o : ℤ) → covers c n o ≡ true → (pos 0 -ℤ pos (2 ^ 32)) ≤ℤ o
          covered o e = let low = near.0 in grind (arith, ints)

      slots : (o : ℤ) (b g : Bool) → int_eq o c ≡ b → (if b then size else (if g then 0 else st.sizes o)) ≢ 0 → IsWithin (2 ^ 32) o
      slots o true g e there = subst (λ (z : ℤ). IsWithin (2 ^ 32) z) (sym ((Decides-int_eq o c).0 e)) near
      slots o false true e there = absurd (there refl)
      slots o false false e there = valid.slots o there

      from_slot : (r : ℕ) (o : ℤ) → 17 ≤ r → (b g : Bool) → (if b then src else (if g then None else Some (Slot o))) ≡ Some (Register r) → Slot o ≡ Register r
      from_slot r o far true g e = from_inside src r far inside e
      from_slot r o far false true e = absurd (none_is e)
      from_slot r o far false false e = some_is e

      comes : (r : ℕ) → 17 ≤ r → (p : Place) → store_from st c n src p ≡ Some (Register r) → p ≡ Register r
      comes r far (Register q) e = some_is e
      comes r far Compared e = some_is e
      comes r far (Slot o) e = from_slot r o far (int_eq o c) (is_lost st c n o) e

  -- a known distance of rsp is near
  abbrev IsNear : Offset → Type 0
  IsNear Unknown = Unit {0}
  IsNear (Known c) = IsWithin (2 ^ 31) c

  near_of : (o : Offset) (v : Value) → OffsetFits o v → IsNear o
  near_of Unknown v fits = tt
  near_of (Known c) v fits = fits.0

  pushed : (c : Offset) → IsNear c → (o : ℤ) → is_pushed c o ≡ true → (pos 0 -ℤ pos (2 ^ 32)) ≤ℤ o
  pushed Unknown near o e = absurd (false≢true e)
  pushed (Known c) near o e = let low = near.0 in grind (arith, ints)

  pub call_form : (kept : ℕ → Bool) (c : Offset) (v : Value) → OffsetFits c v → IsForm members (call st kept c) → IsStateForm members (call st kept c)
  call_form kept c v fits form =
      changed_form (record { from = call_from st kept c; fresh = call_fresh; gone = λ r. not (kept r) })
      _ _ _ fact.Unknown st.probed valid.probed (λ o e. framed o e) (λ o there. slots o (stays_over c o) there)
      (λ r far. (offset_of r far (kept r), stays r far (kept r) refl)) form
    where
      framed : (o : ℤ) → (is_pushed c o || st.written o) ≡ true → (pos 0 -ℤ pos (2 ^ 32)) ≤ℤ o
      framed o e = elim (or_cases (is_pushed c o) (st.written o) e) [
        | inl new ↦ pushed c (near_of c v fits) o new
        | inr old ↦ valid.frame o old
      ]

      slots : (o : ℤ) (b : Bool) → (if b then st.sizes o else 0) ≢ 0 → IsWithin (2 ^ 32) o
      slots o true there = valid.slots o there
      slots o false there = absurd (there refl)

      offset_of : (r : ℕ) → 17 ≤ r → (b : Bool) → (if b then st.offsets r else Unknown) ≡ Unknown
      offset_of r far true = (valid.registers r far).offset
      offset_of r far false = refl

      fresh_of : (r : ℕ) → 17 ≤ r → (b : Bool) → nat_lt r 16 ≡ b → (if b then Num else Any) ≡ Any
      fresh_of r far true e = absurd (let low = ltb-true r 16 e in omega arith)
      fresh_of r far false e = refl

      from_register : (r q : ℕ) (b : Bool) → (if b then Some (Register q) else None) ≡ Some (Register r) → Register q ≡ Register r
      from_register r q true e = some_is e
      from_register r q false e = absurd (none_is e)

      from_slot : (r : ℕ) (o : ℤ) (b : Bool) → (if b then Some (Slot o) else None) ≡ Some (Register r) → Slot o ≡ Register r
      from_slot r o true e = some_is e
      from_slot r o false e = absurd (none_is e)

      comes : (r : ℕ) (p : Place) → call_from st kept c p ≡ Some (Register r) → p ≡ Register r
      comes r (Register q) e = from_register r q (kept q) e
      comes r Compared e = absurd (none_is e)
      comes r (Slot o) e = from_slot r o (not (st.sizes o == 0) && stays_over c o) e

      stays : (r : ℕ) → 17 ≤ r → (b : Bool) → kept r ≡ b
          → ((call_from st kept c (Register r) ≡ None) × (call_fresh (Register r) ≡ Any)) ⊎ ((call_from st kept c (Register r) ≡ Some (Register r)) × ((p : Place) → call_from st kept c p ≡ Some (Register r) → p ≡ Register r))
      stays r far true e = inr (ap (λ (b : Bool). if b then Some (Register r) else None) e, λ p s. comes r p s)
      stays r far false e = inl (ap (λ (b : Bool). if b then Some (Register r) else None) e, fresh_of r far (nat_lt r 16) refl)

-- ---- a probe

by_reach : (n p : ℕ) (c : ℤ) → IsWithin (2 ^ 31) c → n ≤ 2 ^ 31 → p ≤ 2 ^ 32 → max p (reach n c) ≤ 2 ^ 32
by_reach n p (pos d) near few low = omega arith
by_reach n p (negsuc d) near few low = let bound = near.0 in omega (arith, ints)

deeper_by_low : (n : ℕ) (c : Offset) (v : Value) (p : ℕ) → OffsetFits c v → p ≤ 2 ^ 32 → deeper_by n c p ≤ 2 ^ 32
deeper_by_low n Unknown v p fits low = low
deeper_by_low n (Known c) v p fits low = go (nat_le n (2 ^ 31)) refl
  where
    go : (b : Bool) → nat_le n (2 ^ 31) ≡ b → (if b then max p (reach n c) else p) ≤ 2 ^ 32
    go true e = by_reach n p c fits.0 (few e) low
      where
        few : nat_le n (2 ^ 31) ≡ true → n ≤ 2 ^ 31
        few e = grind arith
    go false e = low

pub deeper_low : (x : Value) (c : Offset) (v : Value) (p : ℕ) → OffsetFits c v → p ≤ 2 ^ 32 → deeper x c p ≤ 2 ^ 32
deeper_low (Const n) c v p fits low = deeper_by_low n c v p fits low
deeper_low x c v p fits low = low
