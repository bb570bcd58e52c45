-- A statement leaves a state a state: its ranges, its bounds, its classes.
use Rattle.std.proofs.Common.{◌≡◌, ◌≢◌, ℕ, ◌⊎◌, inl, inr, ⊎_elim, ◌==◌, refl, sym, ap, ◌∙◌, subst, arith}
use Rattle.std.specs.Prelude.{List, int_lt, nat_lt, ◌<ℤ◌, Option, Some, None, Bool, true, false, if◌then◌else◌, ◌&&◌, ◌||◌, not, ℤ, pos}
use Rattle.std.proofs.lemmas.Int.{ints}
use Rattle.std.proofs.lemmas.Bool.{eqb-true, eqb-false, false≢true}
use Rattle.vw_domain.proofs.ChangeLaws.{is_place_true, is_place_same}
use Rattle.vw_domain.proofs.WriteLaws.{some_is, none_is}
use Rattle.vw_names.specs.declared.spot.Spot.{Spot as Place}
use Rattle.vw_names.specs.declared.spot.Spot.TheVariants.{Reg as Register, Flags as Compared, Slot}
use Rattle.vw_stack.specs.declared.offset.Offset.{Offset}
use Rattle.vw_stack.specs.declared.offset.Offset.TheVariants.{Known, Unknown}
use Rattle.vw_values.specs.declared.value.Value.{Value}
use Rattle.vw_values.specs.declared.value.Value.TheVariants.{Any, Num, Const, Below, TagOf}
use Rattle.vw_values.specs.Values.{IsValue, IsAmong, IsNumber}
use Rattle.std.specs.Ordering.{int_eq}
use Rattle.vw_domain.specs.declared.parts.Fact.{Fact}
use Rattle.vw_domain.specs.declared.parts.Fact.TheVariants as fact
use Rattle.vw_domain.specs.Registers.{OffsetFits}
use Rattle.vw_domain.specs.State.{IsFact, IsNarrow}
use Rattle.vw_domain.specs.Abstract.{Abstract}
use Rattle.vw_domain.specs.Changes.{Change, forget, value_from, same_from, changed_value, changed, write_from, writing_register, write, overlaps, covers, store_from, fresh_slot, store_frame, lose_from, lose_slots, flags_from, set_flags, stays_over, call_from, call_fresh, is_pushed, call}
use Rattle.vw_domain.specs.FormRanges.{IsForm, SlotFits}
use Rattle.vw_values.specs.Stands.{register_of}

narrow_forget : (g : ℕ → Bool) (v : Value) → IsNarrow v → IsNarrow (forget g v)
narrow_forget g (Const c) n = n
narrow_forget g (Below k) n = n
narrow_forget g v n = absurd n

number_forget : (g : ℕ → Bool) (v : Value) → IsNumber v → IsNumber (forget g v)
number_forget g (TagOf t via) n = absurd n
number_forget g v n = n

plain_forget : (g : ℕ → Bool) (v : Value) → (v ≡ Any) ⊎ IsNumber v → (forget g v ≡ Any) ⊎ IsNumber (forget g v)
plain_forget g v (inl e) = inl (ap (forget g) e)
plain_forget g v (inr n) = inr (number_forget g v n)

-- nothing is known where there is no slot
pub absent : (members : List ℕ) (st : Abstract) → IsForm members st → (o : ℤ) → st.sizes o ≡ 0 → st.values (Slot o) ≡ Any
absent members st valid o z = by_fit (valid.slots o)
  where
    by_fit : SlotFits (st.sizes o) (st.values (Slot o)) → st.values (Slot o) ≡ Any
    by_fit (inl k) = k.1
    by_fit (inr (inl k)) = absurd (omega arith)
    by_fit (inr (inr k)) = absurd (let a = k.0 in omega arith)

module _ (members : List ℕ) where
  forget_valid : (g : ℕ → Bool) (v : Value) → IsValue v → IsValue (forget g v)
  forget_valid g (TagOf t via) k = by_test (g (register_of via))
    where
      by_test : (b : Bool) → IsValue (if b then Any else TagOf t via)
      by_test true = tt
      by_test false = k
  forget_valid g v k = k

  forget_fits : (g : ℕ → Bool) (v : Value) → IsAmong members v → IsAmong members (forget g v)
  forget_fits g (TagOf t via) k = by_test (g (register_of via))
    where
      by_test : (b : Bool) → IsAmong members (if b then Any else TagOf t via)
      by_test true = tt
      by_test false = tt
  forget_fits g v k = k

  -- a value that stands beside an offset or in a slot
  forget_offset : (g : ℕ → Bool) (o : Offset) (v : Value) → OffsetFits o v → OffsetFits o (forget g v)
  forget_offset g Unknown v k = tt
  forget_offset g (Known c) v k = (k.0, plain_forget g v k.1)

  forget_any : (g : ℕ → Bool) (v : Value) → v ≡ Any → forget g v ≡ Any
  forget_any g v e = ap (forget g) e

  forget_slot : (g : ℕ → Bool) (n : ℕ) (v : Value) → SlotFits n v → SlotFits n (forget g v)
  forget_slot g n v (inl k) = inl (k.0, forget_any g v k.1)
  forget_slot g n v (inr (inl k)) = inr (inl k)
  forget_slot g n v (inr (inr k)) = inr (inr (k.0, narrow_forget g v k.1))

  module _ (st : Abstract) (c : Change) (valid : IsForm members st) (fresh_valid : (p : Place) → c.from p ≡ None → IsValue (c.fresh p) × IsAmong members (c.fresh p)) where
    from_valid : (p : Place) (o : Option Place) → c.from p ≡ o → IsValue (value_from st.values (c.fresh p) o) × IsAmong members (value_from st.values (c.fresh p) o)
    from_valid p None e = fresh_valid p e
    from_valid p (Some q) e = (valid.values q, valid.among q)

    values_valid : (p : Place) → IsValue (changed_value st c p)
    values_valid Compared = tt
    values_valid (Register r) = forget_valid c.gone _ (from_valid (Register r) (c.from (Register r)) refl).0
    values_valid (Slot o) = forget_valid c.gone _ (from_valid (Slot o) (c.from (Slot o)) refl).0

    values_fit : (p : Place) → IsAmong members (changed_value st c p)
    values_fit Compared = tt
    values_fit (Register r) = forget_fits c.gone _ (from_valid (Register r) (c.from (Register r)) refl).1
    values_fit (Slot o) = forget_fits c.gone _ (from_valid (Slot o) (c.from (Slot o)) refl).1

    itself_by : (p : Place) (o : Option Place) → same_from st.same p p o o ≡ true
    itself_by p None = is_place_same p
    itself_by p (Some a) = valid.itself a

    -- a slot that is not there comes from nowhere, or from the same one, which nothing else comes from
    abbrev IsAlone : ℤ → Type 0
    IsAlone o = (c.from (Slot o) ≡ None) ⊎ ((c.from (Slot o) ≡ Some (Slot o)) × (st.sizes o ≡ 0) × ((p : Place) → c.from p ≡ Some (Slot o) → p ≡ Slot o))

    left_by : (p : Place) (o : ℤ) (b : Option Place) → IsAlone o → c.from p ≡ b → same_from st.same (Slot o) p (c.from (Slot o)) b ≡ true → p ≡ Slot o
    left_by p o None (inl n) e s = let P : Option Place → Type 0 = λ x. same_from st.same (Slot o) p x None ≡ true in sym (is_place_true (Slot o) p (subst P n s))
    left_by p o (Some b) (inl n) e s = let P : Option Place → Type 0 = λ x. same_from st.same (Slot o) p x (Some b) ≡ true in absurd (false≢true (subst P n s))
    left_by p o None (inr k) e s = let P : Option Place → Type 0 = λ x. same_from st.same (Slot o) p x None ≡ true in absurd (false≢true (subst P k.0 s))
    left_by p o (Some b) (inr k) e s =
        let P : Option Place → Type 0 = λ x. same_from st.same (Slot o) p x (Some b) ≡ true in
        k.2 p (e ∙ ap Some (valid.alone_left b o k.1 (subst P k.0 s)))

    right_by : (p : Place) (o : ℤ) (b : Option Place) → IsAlone o → c.from p ≡ b → same_from st.same p (Slot o) b (c.from (Slot o)) ≡ true → p ≡ Slot o
    right_by p o None (inl n) e s = let P : Option Place → Type 0 = λ x. same_from st.same p (Slot o) None x ≡ true in is_place_true p (Slot o) (subst P n s)
    right_by p o (Some b) (inl n) e s = let P : Option Place → Type 0 = λ x. same_from st.same p (Slot o) (Some b) x ≡ true in absurd (false≢true (subst P n s))
    right_by p o None (inr k) e s = let P : Option Place → Type 0 = λ x. same_from st.same p (Slot o) None x ≡ true in absurd (false≢true (subst P k.0 s))
    right_by p o (Some b) (inr k) e s =
        let P : Option Place → Type 0 = λ x. same_from st.same p (Slot o) (Some b) x ≡ true in
        k.2 p (e ∙ ap Some (valid.alone_right b o k.1 (subst P k.0 s)))

    pub changed_valid : (offsets : ℕ → Offset) (sizes : ℤ → ℕ) (written : ℤ → Bool) (fact : Fact) (probed : ℕ)
        → ((r : ℕ) → OffsetFits (offsets r) (value_from st.values (c.fresh (Register r)) (c.from (Register r))))
        → ((o : ℤ) → SlotFits (sizes o) (value_from st.values (c.fresh (Slot o)) (c.from (Slot o))))
        → IsFact fact
        → ((o : ℤ) → written o ≡ true → o <ℤ pos 0)
        → ((o : ℤ) → sizes o ≡ 0 → IsAlone o)
        → IsForm members (record (changed st c) { offsets = offsets; sizes = sizes; written = written; fact = fact; probed = probed })
    changed_valid offsets sizes written fact probed numbers slots is_fact below alone =
        record {
          values = values_valid;
          among = values_fit;
          offsets = λ r. forget_offset c.gone _ _ (numbers r);
          slots = λ o. forget_slot c.gone _ _ (slots o);
          itself = λ p. itself_by p (c.from p);
          fact = is_fact;
          written = below;
          alone_left = λ p o z s. left_by p o (c.from p) (alone o z) refl s;
          alone_right = λ p o z s. right_by p o (c.from p) (alone o z) refl s;
        }

  -- the place that a register is a copy of is there
  abbrev pub IsThere : Abstract → Option Place → Type 0
  IsThere st (Some (Slot o)) = st.sizes o ≢ 0
  IsThere st src = Unit {0}

  pub write_valid : (st : Abstract) (d : ℕ) (src : Option Place) (v : Value) (o : Offset) → IsForm members st → IsThere st src → IsValue v → IsAmong members v → OffsetFits o (value_from st.values v src)
      → IsForm members (write st d src v o)
  write_valid st d src v o valid there is_v in_v number =
      changed_valid st (writing_register d src v) valid (λ p e. (is_v, in_v)) (λ q. if q == d then o else st.offsets q) st.sizes st.written st.fact st.probed
      (λ r. by_choice r (r == d)) valid.slots valid.fact valid.written (λ c z. inr (refl, z, λ p e. comes c z p e))
    where
      by_choice : (r : ℕ) (b : Bool) → OffsetFits (if b then o else st.offsets r) (value_from st.values v (if b then src else Some (Register r)))
      by_choice r true = number
      by_choice r false = valid.offsets r

      from_register : (c : ℤ) (r : ℕ) (b : Bool) (s : Option Place) → IsThere st s → st.sizes c ≡ 0 → (if b then s else Some (Register r)) ≡ Some (Slot c) → Register r ≡ Slot c
      from_register c r true None t z e = absurd (none_is e)
      from_register c r true (Some (Register q)) t z e = absurd (let x : Register q ≡ Slot c = some_is e in cc)
      from_register c r true (Some Compared) t z e = absurd (let x : Compared ≡ Slot c = some_is e in cc)
      from_register c r true (Some (Slot a)) t z e = let x : Slot a ≡ Slot c = some_is e in let y : a ≡ c = cc in absurd (t (ap st.sizes y ∙ z))
      from_register c r false s t z e = some_is e

      comes : (c : ℤ) → st.sizes c ≡ 0 → (p : Place) → write_from d src p ≡ Some (Slot c) → p ≡ Slot c
      comes c z (Register r) e = from_register c r (r == d) src there z e
      comes c z Compared e = some_is e
      comes c z (Slot a) e = some_is e

  -- flags, from a register or nothing
  abbrev pub IsRegister : Option Place → Type 0
  IsRegister None = Unit {0}
  IsRegister (Some (Register r)) = Unit {0}
  IsRegister (Some p) = ⊥

  from_there : (src : Option Place) (c : ℤ) {A : Type 0} → IsRegister src → src ≡ Some (Slot c) → A
  from_there None c i e = absurd (none_is e)
  from_there (Some (Register r)) c i e = absurd (let x : Register r ≡ Slot c = some_is e in cc)
  from_there (Some Compared) c i e = absurd i
  from_there (Some (Slot o)) c i e = absurd i

  pub set_flags_valid : (st : Abstract) (src : Option Place) (fact : Fact) → IsForm members st → IsRegister src → IsFact fact → IsForm members (set_flags st src fact)
  set_flags_valid st src fact valid i is_fact =
      changed_valid st (record { from = flags_from src; fresh = λ p. Any; gone = λ r. false }) valid (λ p e. (tt, tt)) st.offsets st.sizes st.written fact st.probed
      valid.offsets valid.slots is_fact valid.written (λ c z. inr (refl, z, λ p e. comes c p e))
    where
      comes : (c : ℤ) (p : Place) → flags_from src p ≡ Some (Slot c) → p ≡ Slot c
      comes c (Register r) e = some_is e
      comes c Compared e = from_there src c i e
      comes c (Slot a) e = some_is e

  pub lose_valid : (st : Abstract) → IsForm members st → IsForm members (lose_slots st)
  lose_valid st valid =
      changed_valid st (record { from = lose_from; fresh = λ p. Any; gone = λ r. false }) valid (λ p e. (tt, tt)) st.offsets (λ o. 0) st.written st.fact st.probed
      valid.offsets (λ o. inl (refl, refl)) valid.fact valid.written (λ o z. inl refl)

  pub store_valid : (st : Abstract) (c : ℤ) (n size : ℕ) (src : Option Place) (v : Value) → IsForm members st → IsRegister src → IsValue v → IsAmong members v
      → SlotFits size (value_from st.values v src) → (size ≡ 0 → src ≡ None) → IsForm members (store_frame st c n size src v)
  store_valid st c n size src v valid i is_v in_v slot none =
      changed_valid st (record { from = store_from st c n src; fresh = fresh_slot c v; gone = λ r. false }) valid fresh_valid st.offsets _ _ st.fact st.probed
      valid.offsets (λ o. slots o (int_eq o c) ((st.sizes o == 0) || overlaps c n o (st.sizes o))) valid.fact
      (λ o e. below o e)
      (λ o z. alone o (int_eq o c) (st.sizes o == 0) (overlaps c n o (st.sizes o)) refl z)
    where
      fresh_valid : (p : Place) → store_from st c n src p ≡ None → IsValue (fresh_slot c v p) × IsAmong members (fresh_slot c v p)
      fresh_valid (Register r) e = (tt, tt)
      fresh_valid Compared e = (tt, tt)
      fresh_valid (Slot o) e = by_test (int_eq o c)
        where
          by_test : (b : Bool) → IsValue (if b then v else Any) × IsAmong members (if b then v else Any)
          by_test true = (is_v, in_v)
          by_test false = (tt, tt)

      slots : (o : ℤ) (b g : Bool) → SlotFits (if b then size else (if g then 0 else st.sizes o)) (value_from st.values (if b then v else Any) (if b then src else (if g then None else Some (Slot o))))
      slots o true g = slot
      slots o false true = inl (refl, refl)
      slots o false false = valid.slots o

      covered : (o : ℤ) (p q : Bool) → (p && int_lt o (pos 0)) ≡ true → o <ℤ pos 0
      covered o true q e = lt_of o e
        where
          lt_of : (o : ℤ) → int_lt o (pos 0) ≡ true → o <ℤ pos 0
          lt_of o e = grind (arith, ints)
      covered o false q e = absurd (false≢true e)

      or_is : (a b : Bool) → (a || b) ≡ true → (a ≡ true) ⊎ (b ≡ true)
      or_is true b e = inl refl
      or_is false b e = inr e

      below : (o : ℤ) → ((covers c n o && int_lt o (pos 0)) || st.written o) ≡ true → o <ℤ pos 0
      below o e = ⊎_elim (λ (a : (covers c n o && int_lt o (pos 0)) ≡ true). covered o (covers c n o) true a) (λ (a : st.written o ≡ true). valid.written o a) (or_is _ _ e)

      alone : (o : ℤ) (b x y : Bool) → (st.sizes o == 0) ≡ x → (if b then size else (if x || y then 0 else st.sizes o)) ≡ 0
          → ((if b then src else (if x || y then None else Some (Slot o))) ≡ None)
          ⊎ (((if b then src else (if x || y then None else Some (Slot o))) ≡ Some (Slot o)) × (st.sizes o ≡ 0) × ((p : Place) → store_from st c n src p ≡ Some (Slot o) → p ≡ Slot o))
      alone o true x y e z = inl (none z)
      alone o false true y e z = inl refl
      alone o false false true e z = inl refl
      alone o false false false e z = absurd (eqb-false (st.sizes o) 0 e z)

  pub call_valid : (st : Abstract) (kept : ℕ → Bool) (c : Offset) → IsForm members st → IsForm members (call st kept c)
  call_valid st kept c valid =
      changed_valid st (record { from = call_from st kept c; fresh = call_fresh; gone = λ r. not (kept r) }) valid fresh_valid
      _ _ _ fact.Unknown st.probed (λ r. numbers r (kept r)) (λ o. slots o (st.sizes o == 0) (stays_over c o) refl) tt (λ o e. below o e)
      (λ o z. alone o (st.sizes o == 0) (stays_over c o) refl z)
    where
      any_num : (b : Bool) → IsValue (if b then Num else Any) × IsAmong members (if b then Num else Any)
      any_num true = (tt, tt)
      any_num false = (tt, tt)

      fresh_valid : (p : Place) → call_from st kept c p ≡ None → IsValue (call_fresh p) × IsAmong members (call_fresh p)
      fresh_valid (Register r) e = any_num (nat_lt r 16)
      fresh_valid Compared e = (tt, tt)
      fresh_valid (Slot o) e = (tt, tt)

      numbers : (r : ℕ) (b : Bool) → OffsetFits (if b then st.offsets r else Unknown) (value_from st.values (call_fresh (Register r)) (if b then Some (Register r) else None))
      numbers r true = valid.offsets r
      numbers r false = tt

      slots : (o : ℤ) (z b : Bool) → (st.sizes o == 0) ≡ z → SlotFits (if b then st.sizes o else 0) (value_from st.values Any (if not z && b then Some (Slot o) else None))
      slots o true true e = inl (eqb-true (st.sizes o) 0 e, refl)
      slots o true false e = inl (refl, refl)
      slots o false true e = valid.slots o
      slots o false false e = inl (refl, refl)

      pushed_below : (c : Offset) (o : ℤ) → is_pushed c o ≡ true → o <ℤ pos 0
      pushed_below Unknown o e = absurd (false≢true e)
      pushed_below (Known c) o e = grind (arith, ints)

      or_is : (a b : Bool) → (a || b) ≡ true → (a ≡ true) ⊎ (b ≡ true)
      or_is true b e = inl refl
      or_is false b e = inr e

      below : (o : ℤ) → (is_pushed c o || st.written o) ≡ true → o <ℤ pos 0
      below o e = ⊎_elim (λ (a : is_pushed c o ≡ true). pushed_below c o a) (λ (a : st.written o ≡ true). valid.written o a) (or_is _ _ e)

      alone : (o : ℤ) (z b : Bool) → (st.sizes o == 0) ≡ z → (if b then st.sizes o else 0) ≡ 0
          → ((if not z && b then Some (Slot o) else None) ≡ None)
          ⊎ (((if not z && b then Some (Slot o) else None) ≡ Some (Slot o)) × (st.sizes o ≡ 0) × ((p : Place) → call_from st kept c p ≡ Some (Slot o) → p ≡ Slot o))
      alone o true b e k = inl refl
      alone o false true e k = absurd (eqb-false (st.sizes o) 0 e k)
      alone o false false e k = inl refl
