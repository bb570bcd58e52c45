-- Calls.
use Rattle.std.proofs.Common.{◌≡◌, ℕ, zero, suc, ◌+◌, ◌-◌, ◌*◌, ◌<◌, ◌≤◌, ◌⊎◌, inl, inr, ⊎_elim, ◌==◌, refl, sym, ap, ◌∙◌, subst, arith}
use Rattle.std.specs.Prelude.{Option, Some, None, Bool, true, false, if◌then◌else◌, nat_lt, ◌&&◌, ◌||◌, not, ℤ, pos, negsuc, ◌+ℤ◌, ◌-ℤ◌, ◌≤ℤ◌, ◌<ℤ◌, int_le}
use Rattle.std.proofs.lemmas.Int.{ints}
use Rattle.std.proofs.lemmas.Bool.{false≢true, true≢false}
use Rattle.vw_insn.specs.Words.{Flags as StatusFlags}
use Rattle.vw_domain.proofs.ChangeLaws.{values_stand, classes_stand, stay_apart, MayTag, values_below, same_below, Agrees}
use Rattle.vw_domain.proofs.WriteLaws.{some_is, none_is}
use Rattle.vw_domain.proofs.Statements.{untagged}
use Rattle.vw_names.specs.declared.spot.Spot.{Spot as Place}
use Rattle.vw_names.specs.declared.spot.Spot.TheVariants.{Reg as Register, Flags as Compared, Slot}
use Rattle.vw_stack.specs.Stack.{offset_below}
use Rattle.vw_stack.specs.declared.offset.Offset.{Offset}
use Rattle.vw_stack.specs.declared.offset.Offset.TheVariants as offset
use Rattle.vw_values.specs.declared.value.Value.TheVariants.{Any, Num}
use Rattle.vw_values.specs.Stands.{Stands}
use Rattle.vw_bits.specs.Fields.{load}
use Rattle.vw_domain.specs.Abstract.{Abstract}
use Rattle.vw_domain.specs.Changes.{Change, value_from, stays_over, call_from, call_fresh, is_pushed, call}
use Rattle.vw_domain.specs.Sites.{Site}
use Rattle.vw_domain.specs.Stands.{Machine, content, at_offset, OffsetStands}
use Rattle.vw_domain.proofs.Orders.{Under, same, to_any, Lower}
use Rattle.vw_domain.proofs.Standing.{Standing}

-- ---- (B)

module _ (s t : Abstract) (h : Lower s t) (itself : (p : Place) → s.same p p ≡ true) (kept : ℕ → Bool) (c c' : Offset) (f : offset_below c c') where
  abbrev cs : Change
  cs = record { from = call_from s kept c; fresh = call_fresh; gone = λ r. not (kept r) }

  abbrev ct : Change
  ct = record { from = call_from t kept c'; fresh = call_fresh; gone = λ r. not (kept r) }

  stays_more : (o : ℤ) → stays_over c' o ≡ true → stays_over c o ≡ true
  stays_more o e = by_offset c c' f e
    where
      by_offset : (b d : Offset) → offset_below b d → stays_over d o ≡ true → stays_over b o ≡ true
      by_offset b offset.Unknown f e = absurd (false≢true e)
      by_offset offset.Unknown (offset.Known d) f e = absurd f
      by_offset (offset.Known b) (offset.Known d) f e = subst (λ z. stays_over (offset.Known z) o ≡ true) (sym f) e

  agrees : (p : Place) → Agrees s cs ct p
  agrees (Register q) = by_test (kept q)
    where
      any_num : (b : Bool) → Under (if b then Num else Any) (if b then Num else Any)
      any_num b = same

      by_test : (b : Bool) → (((if b then Some (Register q) else None) ≡ None) × Under (value_from s.values (call_fresh (Register q)) (if b then Some (Register q) else None)) (call_fresh (Register q)))
          ⊎ ((p : Place) × ((if b then Some (Register q) else None) ≡ Some p) × ((if b then Some (Register q) else None) ≡ Some p))
      by_test true = inr (Register q, refl, refl)
      by_test false = inl (refl, same)
  agrees Compared = inl (refl, to_any)
  agrees (Slot o) = by_size (h.sizes o)
    where
      abbreviated : Option Place → Option Place → Type 0
      abbreviated a b = ((b ≡ None) × Under (value_from s.values Any a) Any) ⊎ ((q : Place) × (a ≡ Some q) × (b ≡ Some q))

      by_tests : (n : ℕ) (z x y : Bool) → (y ≡ true → x ≡ true) → abbreviated (if not z && x then Some (Slot o) else None) (if not z && y then Some (Slot o) else None)
      by_tests n true x y k = inl (refl, to_any)
      by_tests n false true true k = inr (Slot o, refl, refl)
      by_tests n false x false k = inl (refl, to_any)
      by_tests n false false true k = absurd (false≢true (k refl))

      by_size : (t.sizes o ≡ 0) ⊎ (s.sizes o ≡ t.sizes o) → abbreviated (if not (s.sizes o == 0) && stays_over c o then Some (Slot o) else None) (if not (t.sizes o == 0) && stays_over c' o then Some (Slot o) else None)
      by_size (inl z) =
          let P : ℕ → Type 0 = λ n. (if not (n == 0) && stays_over c' o then Some (Slot o) else None) ≡ None in
          inl (subst P (sym z) refl, to_any)
      by_size (inr z) =
          let P : ℕ → Type 0 = λ n. abbreviated (if not (s.sizes o == 0) && stays_over c o then Some (Slot o) else None) (if not (n == 0) && stays_over c' o then Some (Slot o) else None) in
          subst P z (by_tests 0 (s.sizes o == 0) (stays_over c o) (stays_over c' o) (stays_more o))

  pub call_mono : Lower (call s kept c) (call t kept c')
  call_mono =
      record {
        offsets = λ q. by_choice (kept q) (s.offsets q) (t.offsets q) (h.offsets q);
        values = values_below s t cs ct refl agrees h.values;
        sizes = λ o. sized o (stays_over c o) (stays_over c' o) (stays_more o) (h.sizes o);
        same = same_below s t cs ct refl agrees itself h.same;
        fact = tt;
        probed = h.probed;
        written = λ o e. written o c c' f e;
      }
    where
      by_choice : (b : Bool) (a a' : Offset) → offset_below a a' → offset_below (if b then a else offset.Unknown) (if b then a' else offset.Unknown)
      by_choice true a a' k = k
      by_choice false a a' k = tt

      sized : (o : ℤ) (x y : Bool) → (y ≡ true → x ≡ true) → (t.sizes o ≡ 0) ⊎ (s.sizes o ≡ t.sizes o) → ((if y then t.sizes o else 0) ≡ 0) ⊎ ((if x then s.sizes o else 0) ≡ (if y then t.sizes o else 0))
      sized o x false k z = inl refl
      sized o true true k z = z
      sized o false true k z = absurd (false≢true (k refl))

      more : (a b b' : Bool) → (b ≡ true → b' ≡ true) → (a || b) ≡ true → (a || b') ≡ true
      more true b b' f e = refl
      more false b b' f e = f e

      right : (a b : Bool) → b ≡ true → (a || b) ≡ true
      right true b e = refl
      right false b e = e

      written : (o : ℤ) (b d : Offset) → offset_below b d → (is_pushed d o || t.written o) ≡ true → (is_pushed b o || s.written o) ≡ true
      written o b offset.Unknown f e = right (is_pushed b o) (s.written o) (h.written o e)
      written o offset.Unknown (offset.Known d) f e = absurd f
      written o (offset.Known b) (offset.Known d) f e = let P : ℤ → Type 0 = λ z. (is_pushed (offset.Known z) o || s.written o) ≡ true in subst P (sym f) (more (is_pushed (offset.Known d) o) (t.written o) (s.written o) (h.written o) e)

-- ---- (A): what a callee may leave

module _ (top : Machine) (site : Site) (st : Abstract) (held : ℕ → ℕ) (flags : StatusFlags) (bytes : ℕ → ℕ) (compared : ℕ)
    (h : Standing st top held flags bytes compared)
    (kept : ℕ → Bool) (c : ℤ) (rsp_at : ℕ) (here : pos rsp_at ≡ pos top.entry_rsp +ℤ c) (below : c ≤ℤ pos 0)
    (held' : ℕ → ℕ) (flags' : StatusFlags) (bytes' : ℕ → ℕ) (written' : ℕ → Bool)
    (same_registers : (r : ℕ) → kept r ≡ true → held' r ≡ held r)
    (same_bytes : (a : ℕ) → rsp_at ≤ a → bytes' a ≡ bytes a)
    (more : (a : ℕ) → top.is_written a ≡ true → written' a ≡ true)
    (push : (a : ℕ) → rsp_at ≤ a + 8 → a < rsp_at → written' a ≡ true)
    (inside' : (a : ℕ) → written' a ≡ true → (top.stack_start ≤ a) × (a < top.entry_rsp))
    (low : top.stack_start + 8 ≤ rsp_at) where
  abbrev change : Change
  change = record { from = call_from st kept (offset.Known c); fresh = call_fresh; gone = λ r. not (kept r) }

  load_same : (a n : ℕ) → rsp_at ≤ a → load bytes' a n ≡ load bytes a n
  load_same a zero l = refl
  load_same a (suc n) l = ap (λ x. x + 256 * load bytes' (a + 1) n) (same_bytes a l) ∙ ap (λ x. bytes a + 256 * x) (load_same (a + 1) n (omega arith))

  abbrev old : Place → ℕ
  old p = content top.entry_rsp st.sizes held bytes compared p

  abbrev new_sizes : ℤ → ℕ
  new_sizes o = if int_le c o then st.sizes o else 0

  abbrev new : Place → ℕ
  new p = content top.entry_rsp new_sizes held' bytes' compared p

  above : (o : ℤ) → int_le c o ≡ true → rsp_at ≤ at_offset top.entry_rsp o
  above o e = by_sign o (is_le c o e)
    where
      is_le : (c o : ℤ) → int_le c o ≡ true → c ≤ℤ o
      is_le c o e = grind (arith, ints)

      by_sign : (o : ℤ) → c ≤ℤ o → rsp_at ≤ at_offset top.entry_rsp o
      by_sign (pos k) l = omega (arith, ints)
      by_sign (negsuc k) l = omega (arith, ints)

  register_kept : (r : ℕ) (b : Bool) → kept r ≡ b → (q : Place) → (if b then Some (Register r) else None) ≡ Some q → held' r ≡ old q
  register_kept r true k q e = same_registers r k ∙ ap old (some_is e)
  register_kept r false k q e = absurd (none_is e)

  slot_kept : (o : ℤ) (z b : Bool) → int_le c o ≡ b → (q : Place) → (if not z && b then Some (Slot o) else None) ≡ Some q → load bytes' (at_offset top.entry_rsp o) (if b then st.sizes o else 0) ≡ old q
  slot_kept o false true k q e = load_same (at_offset top.entry_rsp o) (st.sizes o) (above o k) ∙ ap old (some_is e)
  slot_kept o true b k q e = absurd (none_is e)
  slot_kept o false false k q e = absurd (none_is e)

  keeps : (p q : Place) → call_from st kept (offset.Known c) p ≡ Some q → new p ≡ old q
  keeps (Register r) q e = register_kept r (kept r) refl q e
  keeps Compared q e = absurd (none_is e)
  keeps (Slot o) q e = slot_kept o (st.sizes o == 0) (int_le c o) refl q e

  any_num : (x : ℕ) (b : Bool) → Stands top.instance held (if b then Num else Any) x
  any_num x true = tt
  any_num x false = tt

  makes : (p : Place) → call_from st kept (offset.Known c) p ≡ None → Stands top.instance held (call_fresh p) (new p)
  makes (Register r) e = any_num (held' r) (nat_lt r 16)
  makes Compared e = tt
  makes (Slot o) e = tt

  still : (b : Bool) (r : ℕ) → kept r ≡ b → not b ≡ false → held' r ≡ held r
  still true r k e = same_registers r k
  still false r k e = absurd (true≢false e)

  stays_by : (b : Bool) (r : ℕ) → not b ≡ false → (if b then Some (Register r) else None) ≡ Some (Register r)
  stays_by true r e = refl
  stays_by false r e = absurd (true≢false e)

  num_may : (b : Bool) → MayTag st.values st.same (if b then Num else Any)
  num_may true = untagged st.values st.same Num refl
  num_may false = untagged st.values st.same Any refl

  fresh_may : (p : Place) → call_from st kept (offset.Known c) p ≡ None → MayTag st.values st.same (call_fresh p)
  fresh_may (Register r) e = num_may (nat_lt r 16)
  fresh_may Compared e = untagged st.values st.same Any refl
  fresh_may (Slot o) e = untagged st.values st.same Any refl

  offset_kept : (r : ℕ) (b : Bool) → kept r ≡ b → OffsetStands top.entry_rsp (if b then st.offsets r else offset.Unknown) (held' r)
  offset_kept r true k = subst (OffsetStands top.entry_rsp (st.offsets r)) (sym (same_registers r k)) (h.offsets r)
  offset_kept r false k = tt

  was_pushed : (o : ℤ) → is_pushed (offset.Known c) o ≡ true → ((c -ℤ pos 8) ≤ℤ o) × (o <ℤ c) × (o <ℤ pos 0)
  was_pushed o e = three c o e
    where
      three : (c o : ℤ) → is_pushed (offset.Known c) o ≡ true → ((c -ℤ pos 8) ≤ℤ o) × (o <ℤ c) × (o <ℤ pos 0)
      three c o e = (grind (arith, ints), grind (arith, ints), grind (arith, ints))

  pushed_at : (o : ℤ) → (c -ℤ pos 8) ≤ℤ o → o <ℤ c → o <ℤ pos 0 → written' (at_offset top.entry_rsp o) ≡ true
  pushed_at (pos k) a b z = absurd (omega (arith, ints))
  pushed_at (negsuc k) a b z = push (top.entry_rsp - suc k) (omega (arith, ints)) (omega (arith, ints))

  or_is : (a b : Bool) → (a || b) ≡ true → (a ≡ true) ⊎ (b ≡ true)
  or_is true b e = inl refl
  or_is false b e = inr e

  pub call_stands : Standing (call st kept (offset.Known c)) (record top { is_written = written' }) held' flags' bytes' compared
  call_stands =
      record {
        low_end = h.low_end;
        high_end = h.high_end;
        depth = h.depth;
        offsets = λ r. offset_kept r (kept r) refl;
        values = values_stand top.instance held held' st change old new (λ r e. still (kept r) r refl e) keeps makes h.values;
        classes = classes_stand top.instance held held' st change old new (λ r e. still (kept r) r refl e) keeps makes h.classes;
        inside = inside';
        written = λ o e. ⊎_elim
            (λ (m : is_pushed (offset.Known c) o ≡ true). let r = was_pushed o m in (r.2, pushed_at o r.0 r.1 r.2))
            (λ (m : st.written o ≡ true). let r = h.written o m in (r.0, more _ r.1))
            (or_is _ _ e);
        word = h.word;
        facts = tt;
        kinds = stay_apart st change (λ r e. stays_by (kept r) r e) fresh_may h.kinds;
      }
