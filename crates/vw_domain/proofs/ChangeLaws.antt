-- What a change of places keeps: what values stand for, classes, and the order.
use Rattle.std.proofs.Common.{◌≡◌, ℕ, ◌+◌, ◌%◌, ◌^◌, ◌⊎◌, ⊎_elim, ◌==◌, refl, sym, ap, ◌∙◌, subst, arith}
use Rattle.std.specs.Prelude.{Option, Some, None, Bool, true, false, if◌then◌else◌, not, ℤ}
use Rattle.std.proofs.lemmas.Int.{ints}
use Rattle.std.proofs.lemmas.Bool.Decides.{Decides-int_eq}
use Rattle.std.proofs.lemmas.Bool.{eqb-true, false≢true}
use Rattle.vw_names.specs.declared.spot.Spot.{Spot as Place}
use Rattle.vw_names.specs.declared.spot.Spot.TheVariants.{Reg as Register, Flags as Compared, Slot}
use Rattle.vw_values.specs.declared.value.Value.{Value}
use Rattle.vw_values.specs.declared.value.Value.TheVariants.{Any, Index16, TagOf}
use Rattle.vw_values.specs.declared.value.Via.TheVariants.{At, Idx}
use Rattle.vw_values.specs.Stands.{Instance, Stands}
use Rattle.std.specs.Ordering.{int_eq}
use Rattle.vw_domain.specs.Abstract.{Abstract, is_place}
use Rattle.vw_domain.specs.Changes.{Change, forget, value_from, same_from, changed_value}
use Rattle.vw_domain.specs.Stands.{is_entry, is_index, Tag, tag_register, clashes, Apart}
use Rattle.vw_domain.proofs.Orders.{Under, same, to_any}

pub is_place_true : (p q : Place) → is_place p q ≡ true → p ≡ q
is_place_true (Register a) (Register b) e = ap Register (eqb-true a b e)
is_place_true Compared Compared e = refl
is_place_true (Slot a) (Slot b) e = ap Slot (both a b e)
  where
    both : (a b : ℤ) → int_eq a b ≡ true → a ≡ b
    both a b e = grind (arith, ints, Decides-int_eq)
is_place_true (Register a) Compared e = absurd (false≢true e)
is_place_true (Register a) (Slot b) e = absurd (false≢true e)
is_place_true Compared (Register b) e = absurd (false≢true e)
is_place_true Compared (Slot b) e = absurd (false≢true e)
is_place_true (Slot a) (Register b) e = absurd (false≢true e)
is_place_true (Slot a) Compared e = absurd (false≢true e)

pub is_place_same : (p : Place) → is_place p p ≡ true
is_place_same (Register a) = same_number a
  where
    same_number : (a : ℕ) → (a == a) ≡ true
    same_number a = grind arith
is_place_same Compared = refl
is_place_same (Slot a) = same_offset a
  where
    same_offset : (a : ℤ) → int_eq a a ≡ true
    same_offset a = grind (arith, ints, Decides-int_eq)

-- ---- (A)

module _ (i : Instance) (held held' : ℕ → ℕ) where
  abbrev Before : Value → ℕ → Type 0
  Before v x = Stands i held v x

  abbrev After : Value → ℕ → Type 0
  After v x = Stands i held' v x

  pub forget_stands : (gone : ℕ → Bool) → ((r : ℕ) → gone r ≡ false → held' r ≡ held r) → (v : Value) (x : ℕ) → Before v x → After (forget gone v) x
  forget_stands gone kept (TagOf t (At r)) x h = by_test (gone r) refl
    where
      by_test : (b : Bool) → gone r ≡ b → After (if b then Any else TagOf t (At r)) x
      by_test true e = tt
      by_test false e = (h.0, h.1 ∙ sym (kept r e), h.2)
  forget_stands gone kept (TagOf t (Idx r)) x h = by_test (gone r) refl
    where
      by_test : (b : Bool) → gone r ≡ b → After (if b then Any else TagOf t (Idx r)) x
      by_test true e = tt
      by_test false e = (h.0, (h.1.0, h.1.1, h.1.2 ∙ ap (λ y. (i.load + h.1.0.address + y) % 2 ^ 64) (sym (kept r e))), h.2)
  forget_stands gone kept v x h = h

  module _ (st : Abstract) (c : Change) (old new : Place → ℕ)
      (kept : (r : ℕ) → c.gone r ≡ false → held' r ≡ held r)
      (keeps : (p q : Place) → c.from p ≡ Some q → new p ≡ old q)
      (makes : (p : Place) → c.from p ≡ None → Before (c.fresh p) (new p))
    where
      from_stands : ((p : Place) → Before (st.values p) (old p)) → (p : Place) (o : Option Place) → c.from p ≡ o → Before (value_from st.values (c.fresh p) o) (new p)
      from_stands h p None e = makes p e
      from_stands h p (Some q) e = let P : ℕ → Type 0 = Before (st.values q) in subst P (sym (keeps p q e)) (h q)

      pub values_stand : ((p : Place) → Before (st.values p) (old p)) → (p : Place) → After (changed_value st c p) (new p)
      values_stand h Compared = tt
      values_stand h (Register r) = forget_stands c.gone kept _ _ (from_stands h (Register r) (c.from (Register r)) refl)
      values_stand h (Slot o) = forget_stands c.gone kept _ _ (from_stands h (Slot o) (c.from (Slot o)) refl)

      classes_by : ((p q : Place) → st.same p q ≡ true → old p ≡ old q) → (p q : Place) (a b : Option Place) → c.from p ≡ a → c.from q ≡ b → same_from st.same p q a b ≡ true → new p ≡ new q
      classes_by h p q None None e f t = ap new (is_place_true p q t)
      classes_by h p q (Some a) (Some b) e f t = keeps p a e ∙ h a b t ∙ sym (keeps q b f)
      classes_by h p q None (Some b) e f t = absurd (false≢true t)
      classes_by h p q (Some a) None e f t = absurd (false≢true t)

      pub classes_stand : ((p q : Place) → st.same p q ≡ true → old p ≡ old q) → (p q : Place) → same_from st.same p q (c.from p) (c.from q) ≡ true → new p ≡ new q
      classes_stand h p q t = classes_by h p q (c.from p) (c.from q) refl refl t

-- ---- (B)

pub forget_below : (gone : ℕ → Bool) (u v : Value) → Under u v → Under (forget gone u) (forget gone v)
forget_below gone u v same = same
forget_below gone u v to_any = to_any
forget_below gone u v h = h

-- a place's number is new in the upper state, with a value above; or it comes from one place in both
abbrev pub Agrees : Abstract → Change → Change → Place → Type 0
Agrees s cs ct p =
    ((ct.from p ≡ None) × Under (value_from s.values (cs.fresh p) (cs.from p)) (ct.fresh p))
    ⊎ ((q : Place) × (cs.from p ≡ Some q) × (ct.from p ≡ Some q))

some_same : {p q : Place} → Some p ≡ Some q → p ≡ q
some_same e = cc

none_some : {p : Place} → ◌≡◌ {A = Option Place} None (Some p) → ⊥
none_some e = cc

module _ (s t : Abstract) (cs ct : Change) (gone : cs.gone ≡ ct.gone) (agrees : (p : Place) → Agrees s cs ct p) where
  from_below : ((p : Place) → Under (s.values p) (t.values p)) → (p : Place) → Under (value_from s.values (cs.fresh p) (cs.from p)) (value_from t.values (ct.fresh p) (ct.from p))
  from_below h p =
      ⊎_elim
      (λ (a : (ct.from p ≡ None) × Under (value_from s.values (cs.fresh p) (cs.from p)) (ct.fresh p)).
      let P : Option Place → Type 0 = λ o. Under (value_from s.values (cs.fresh p) (cs.from p)) (value_from t.values (ct.fresh p) o) in
      subst P (sym a.0) a.1)
      (λ (b : (q : Place) × (cs.from p ≡ Some q) × (ct.from p ≡ Some q)).
      let P : Option Place → Type 0 = λ o. Under (value_from s.values (cs.fresh p) (cs.from p)) (value_from t.values (ct.fresh p) o) in
      let Q : Option Place → Type 0 = λ o. Under (value_from s.values (cs.fresh p) o) (t.values b.0) in
      subst P (sym b.2) (subst Q (sym b.1) (h b.0)))
      (agrees p)

  forgotten : (p : Place) → ((p : Place) → Under (s.values p) (t.values p)) → Under (forget cs.gone (value_from s.values (cs.fresh p) (cs.from p))) (forget ct.gone (value_from t.values (ct.fresh p) (ct.from p)))
  forgotten p h =
      let P : (ℕ → Bool) → Type 0 = λ g. Under (forget cs.gone (value_from s.values (cs.fresh p) (cs.from p))) (forget g (value_from t.values (ct.fresh p) (ct.from p))) in
      subst P gone (forget_below cs.gone _ _ (from_below h p))

  pub values_below : ((p : Place) → Under (s.values p) (t.values p)) → (p : Place) → Under (changed_value s cs p) (changed_value t ct p)
  values_below h Compared = to_any
  values_below h (Register r) = forgotten (Register r) h
  values_below h (Slot o) = forgotten (Slot o) h

  same_itself : ((p : Place) → s.same p p ≡ true) → (p : Place) (o : Option Place) → same_from s.same p p o o ≡ true
  same_itself r p None = is_place_same p
  same_itself r p (Some a) = r a

  same_by : ((p : Place) → s.same p p ≡ true) → ((p q : Place) → t.same p q ≡ true → s.same p q ≡ true)
      → (p q : Place) (a b : Option Place) → ct.from p ≡ a → ct.from q ≡ b → same_from t.same p q a b ≡ true → same_from s.same p q (cs.from p) (cs.from q) ≡ true
  same_by r h p q None None e f i =
      let P : Place → Type 0 = λ x. same_from s.same p x (cs.from p) (cs.from x) ≡ true in
      subst P (is_place_true p q i) (same_itself r p (cs.from p))
  same_by r h p q (Some a) (Some b) e f i =
      let e' : cs.from p ≡ Some a = came p a e in
      let f' : cs.from q ≡ Some b = came q b f in
      let P : Option Place → Type 0 = λ x. same_from s.same p q x (cs.from q) ≡ true in
      let Q : Option Place → Type 0 = λ x. same_from s.same p q (Some a) x ≡ true in
      subst P (sym e') (subst Q (sym f') (h a b i))
    where
      came : (p a : Place) → ct.from p ≡ Some a → cs.from p ≡ Some a
      came p a e = ⊎_elim
          (λ (n : (ct.from p ≡ None) × Under (value_from s.values (cs.fresh p) (cs.from p)) (ct.fresh p)). absurd (none_some (sym n.0 ∙ e)))
          (λ (b : (q : Place) × (cs.from p ≡ Some q) × (ct.from p ≡ Some q)). b.1 ∙ sym b.2 ∙ e)
          (agrees p)
  same_by r h p q None (Some b) e f i = absurd (false≢true i)
  same_by r h p q (Some a) None e f i = absurd (false≢true i)

  pub same_below : ((p : Place) → s.same p p ≡ true) → ((p q : Place) → t.same p q ≡ true → s.same p q ≡ true)
      → (p q : Place) → same_from t.same p q (ct.from p) (ct.from q) ≡ true → same_from s.same p q (cs.from p) (cs.from q) ≡ true
  same_below r h p q i = same_by r h p q (ct.from p) (ct.from q) refl refl i

-- ---- tags

pub no_tag : {g : Tag} → ◌≡◌ {A = Option Tag} None (Some g) → ⊥
no_tag e = cc

register_is : {at : Bool} {t r : ℕ} {g : Tag} → Some (record { at = at; table = t; register = r }) ≡ Some g → r ≡ g.register
register_is e = cc

pub forget_entry : (gone : ℕ → Bool) (v : Value) → is_entry (forget gone v) ≡ true → is_entry v ≡ true
forget_entry gone (TagOf t (At r)) e = by_test (gone r) e
  where
    by_test : (b : Bool) → is_entry (if b then Any else TagOf t (At r)) ≡ true → false ≡ true
    by_test true e = e
    by_test false e = e
forget_entry gone (TagOf t (Idx r)) e = by_test (gone r) e
  where
    by_test : (b : Bool) → is_entry (if b then Any else TagOf t (Idx r)) ≡ true → false ≡ true
    by_test true e = e
    by_test false e = e
forget_entry gone v e = e

pub forget_index : (gone : ℕ → Bool) (v : Value) → is_index (forget gone v) ≡ true → is_index v ≡ true
forget_index gone (TagOf t (At r)) e = by_test (gone r) e
  where
    by_test : (b : Bool) → is_index (if b then Any else TagOf t (At r)) ≡ true → false ≡ true
    by_test true e = e
    by_test false e = e
forget_index gone (TagOf t (Idx r)) e = by_test (gone r) e
  where
    by_test : (b : Bool) → is_index (if b then Any else TagOf t (Idx r)) ≡ true → false ≡ true
    by_test true e = e
    by_test false e = e
forget_index gone v e = e

entry_or_index : (v : Value) → is_entry v ≡ true → is_index v ≡ true → ⊥
entry_or_index (Index16 k m) e f = false≢true e
entry_or_index v e f = false≢true f

-- what remains a tag was one, and its register is not written
pub forget_tag : (gone : ℕ → Bool) (v : Value) (g : Tag) → tag_register (forget gone v) ≡ Some g → (tag_register v ≡ Some g) × (gone g.register ≡ false)
forget_tag gone (TagOf t (At r)) g e = by_test (gone r) refl e
  where
    by_test : (b : Bool) → gone r ≡ b → tag_register (if b then Any else TagOf t (At r)) ≡ Some g → (tag_register (TagOf t (At r)) ≡ Some g) × (gone g.register ≡ false)
    by_test true f e = absurd (no_tag e)
    by_test false f e = let same : r ≡ g.register = register_is e in (e, subst (λ k. gone k ≡ false) same f)
forget_tag gone (TagOf t (Idx r)) g e = by_test (gone r) refl e
  where
    by_test : (b : Bool) → gone r ≡ b → tag_register (if b then Any else TagOf t (Idx r)) ≡ Some g → (tag_register (TagOf t (Idx r)) ≡ Some g) × (gone g.register ≡ false)
    by_test true f e = absurd (no_tag e)
    by_test false f e = let same : r ≡ g.register = register_is e in (e, subst (λ k. gone k ≡ false) same f)
forget_tag gone v g e = absurd (no_tag e)

forget_clash : (gone : ℕ → Bool) (at : Bool) (v : Value) → clashes at (forget gone v) ≡ true → clashes at v ≡ true
forget_clash gone true v e = forget_index gone v e
forget_clash gone false v e = forget_entry gone v e

-- a value of this kind may be given to a place
abbrev pub MayTag : (Place → Value) → (Place → Place → Bool) → Value → Type 0
MayTag values alike v = (q : Place) (g : Tag) → tag_register v ≡ Some g → alike (Register g.register) q ≡ true → clashes g.at (values q) ≡ true → ⊥

module _ (st : Abstract) (c : Change)
    (stays : (r : ℕ) → c.gone r ≡ false → c.from (Register r) ≡ Some (Register r))
    (may : (p : Place) → c.from p ≡ None → MayTag st.values st.same (c.fresh p))
    (old : Apart st.values st.same)
  where
    clash_before : (at : Bool) (p : Place) → clashes at (changed_value st c p) ≡ true → clashes at (value_from st.values (c.fresh p) (c.from p)) ≡ true
    clash_before true Compared e = absurd (false≢true e)
    clash_before false Compared e = absurd (false≢true e)
    clash_before at (Register r) e = forget_clash c.gone at _ e
    clash_before at (Slot o) e = forget_clash c.gone at _ e

    tag_before : (p : Place) (g : Tag) → tag_register (changed_value st c p) ≡ Some g → (tag_register (value_from st.values (c.fresh p) (c.from p)) ≡ Some g) × (c.gone g.register ≡ false)
    tag_before Compared g e = absurd (no_tag e)
    tag_before (Register r) g e = forget_tag c.gone _ g e
    tag_before (Slot o) g e = forget_tag c.gone _ g e

    both_kinds : (at : Bool) (v : Value) → clashes (not at) v ≡ true → clashes at v ≡ true → ⊥
    both_kinds true v e f = entry_or_index v e f
    both_kinds false v e f = entry_or_index v f e

    apart_by : (at : Bool) (p q : Place) (a b : Option Place) → same_from st.same p q a b ≡ true → clashes (not at) (value_from st.values (c.fresh p) a) ≡ true → clashes at (value_from st.values (c.fresh q) b) ≡ true → ⊥
    apart_by at p q None None s e f = let P : Place → Type 0 = λ x. clashes at (c.fresh x) ≡ true in both_kinds at (c.fresh p) e (subst P (sym (is_place_true p q s)) f)
    apart_by at p q (Some a) (Some b) s e f = old.apart at a b s e f
    apart_by at p q None (Some b) s e f = false≢true s
    apart_by at p q (Some a) None s e f = false≢true s

    tags_by : (p q : Place) (g : Tag) (a b : Option Place) → c.from p ≡ a → tag_register (value_from st.values (c.fresh p) a) ≡ Some g
        → same_from st.same (Register g.register) q (Some (Register g.register)) b ≡ true → clashes g.at (value_from st.values (c.fresh q) b) ≡ true → ⊥
    tags_by p q g None (Some b) n e s f = may p n b g e s f
    tags_by p q g (Some a) (Some b) n e s f = old.tags a b g e s f
    tags_by p q g a None n e s f = false≢true s

    pub stay_apart : Apart (changed_value st c) (λ p q. same_from st.same p q (c.from p) (c.from q))
    stay_apart =
        record {
          apart = λ at p q s e f. apart_by at p q (c.from p) (c.from q) s (clash_before (not at) p e) (clash_before at q f);
          tags = λ p q g e s f.
              let before = tag_before p g e in
              let here = stays g.register before.1 in
              let P : Option Place → Type 0 = λ x. same_from st.same (Register g.register) q x (c.from q) ≡ true in
              tags_by p q g (c.from p) (c.from q) refl before.0 (subst P here s) (clash_before g.at q f);
        }
