-- A register or tmp is written.
use Rattle.std.proofs.Common.{◌≡◌, ℕ, ◌<◌, ◌⊎◌, inl, inr, ◌==◌, refl, sym, ap, ◌∙◌, subst, arith}
use Rattle.std.proofs.Math.Path.{fun_ext}
use Rattle.std.specs.Prelude.{Option, Some, None, Bool, true, false, if◌then◌else◌}
use Rattle.std.proofs.lemmas.Bool.{eqb-true, false≢true}
use Rattle.vw_insn.specs.declared.registers.Reg.{Reg}
use Rattle.vw_insn.specs.Words.{Flags as StatusFlags, number}
use Rattle.vw_stmt.specs.declared.operands.Var.{Var}
use Rattle.vw_stmt.specs.declared.operands.Var.TheVariants as var
use Rattle.vw_stmt.specs.Environment.{Environment, set_var}
use Rattle.vw_domain.proofs.ChangeLaws.{values_stand, classes_stand, stay_apart, MayTag, values_below, same_below, Agrees}
use Rattle.vw_names.specs.declared.spot.Spot.{Spot as Place}
use Rattle.vw_names.specs.declared.spot.Spot.TheVariants.{Reg as Register, Flags as Compared, Slot}
use Rattle.vw_stack.specs.Stack.{offset_below}
use Rattle.vw_stack.specs.declared.offset.Offset.{Offset}
use Rattle.vw_values.specs.declared.value.Value.{Value}
use Rattle.vw_values.specs.Stands.{Stands}
use Rattle.vw_domain.specs.Abstract.{Abstract}
use Rattle.vw_domain.specs.Changes.{Change, value_from, write_from, writing_register, write}
use Rattle.vw_domain.specs.Sites.{Site}
use Rattle.vw_domain.specs.Operands.{index_of}
use Rattle.vw_domain.specs.Stands.{Machine, content, OffsetStands}
use Rattle.vw_domain.specs.Soundness.{held_of}
use Rattle.vw_domain.proofs.Orders.{Under, Lower}
use Rattle.vw_domain.proofs.Standing.{Standing}

pub some_is : {A : Type 0} {a b : A} → Some a ≡ Some b → a ≡ b
some_is e = cc

pub none_is : {A : Type 0} {a : A} → ◌≡◌ {A = Option A} None (Some a) → ⊥
none_is e = cc

pub is_itself : (a : ℕ) → (a == a) ≡ true
is_itself a = grind arith

pub below_16 : (r : Reg) → number r < 16
below_16 r = grind arith

module _ (top : Machine) (site : Site) where
  -- the number x comes from a place, or a value stands for it
  abbrev pub SourceStands : Abstract → (ℕ → ℕ) → (ℕ → ℕ) → ℕ → Option Place → Value → ℕ → Type 0
  SourceStands st held bytes compared None v x = Stands top.instance held v x
  SourceStands st held bytes compared (Some p) v x = x ≡ content top.entry_rsp st.sizes held bytes compared p

  pub write_core : (st : Abstract) (held : ℕ → ℕ) (flags : StatusFlags) (bytes : ℕ → ℕ) (compared d : ℕ) (src : Option Place) (v : Value) (o : Offset) (x : ℕ)
      → Standing st top held flags bytes compared
      → SourceStands st held bytes compared src v x
      → OffsetStands top.entry_rsp o x
      → MayTag st.values st.same v
      → Standing (write st d src v o) top (λ q. if q == d then x else held q) flags bytes compared
  write_core st held flags bytes compared d src v o x h source offset may =
      record {
        low_end = h.low_end;
        high_end = h.high_end;
        depth = h.depth;
        offsets = λ q. by_choice (q == d) (st.offsets q) (held q) (h.offsets q);
        values = values_stand top.instance held new_held st change old new kept keeps makes h.values;
        classes = classes_stand top.instance held new_held st change old new kept keeps makes h.classes;
        inside = h.inside;
        written = h.written;
        word = h.word;
        facts = h.facts;
        kinds = stay_apart st change (λ r e. stays r (r == d) refl e) (λ p n. may) h.kinds;
      }
    where
      new_held : ℕ → ℕ
      new_held = λ q. if q == d then x else held q

      change : Change
      change = writing_register d src v

      old : Place → ℕ
      old = content top.entry_rsp st.sizes held bytes compared

      new : Place → ℕ
      new = content top.entry_rsp st.sizes new_held bytes compared

      by_choice : (b : Bool) (other : Offset) (y : ℕ) → OffsetStands top.entry_rsp other y → OffsetStands top.entry_rsp (if b then o else other) (if b then x else y)
      by_choice true other y k = offset
      by_choice false other y k = k

      kept_by : (r : ℕ) (b : Bool) → b ≡ false → (if b then x else held r) ≡ held r
      kept_by r true e = absurd (false≢true (sym e))
      kept_by r false e = refl

      kept : (r : ℕ) → (r == d) ≡ false → new_held r ≡ held r
      kept r e = kept_by r (r == d) e

      from_register : (q : ℕ) (b : Bool) (p : Place) (s : Option Place) → SourceStands st held bytes compared s v x → (if b then s else Some (Register q)) ≡ Some p → (if b then x else held q) ≡ old p
      from_register q true p None k e = absurd (none_is e)
      from_register q true p (Some s) k e = k ∙ ap old (some_is e)
      from_register q false p s k e = ap old (some_is e)

      keeps : (p q : Place) → write_from d src p ≡ Some q → new p ≡ old q
      keeps (Register r) q e = from_register r (r == d) q src source e
      keeps Compared q e = ap old (some_is e)
      keeps (Slot c) q e = ap old (some_is e)

      fresh_register : (q : ℕ) (b : Bool) (s : Option Place) → SourceStands st held bytes compared s v x → (if b then s else Some (Register q)) ≡ None → Stands top.instance held v (if b then x else held q)
      fresh_register q true None k e = k
      fresh_register q true (Some s) k e = absurd (none_is (sym e))
      fresh_register q false s k e = absurd (none_is (sym e))

      makes : (p : Place) → write_from d src p ≡ None → Stands top.instance held v (new p)
      makes (Register r) e = fresh_register r (r == d) src source e
      makes Compared e = absurd (none_is (sym e))
      makes (Slot c) e = absurd (none_is (sym e))

      stays : (r : ℕ) (b : Bool) → (r == d) ≡ b → b ≡ false → (if r == d then src else Some (Register r)) ≡ Some (Register r)
      stays r true e f = absurd (false≢true (sym f))
      stays r false e f = ap (λ t. if t then src else Some (Register r)) e

  abbrev pub StandsAt : Abstract → Environment → ℕ → Type 0
  StandsAt st e compared = Standing st top (held_of e) e.flags e.bytes compared

  pub write_stands : (st : Abstract) (e : Environment) (compared : ℕ) (dst : Var) (src : Option Place) (v : Value) (o : Offset) (x : ℕ)
      → StandsAt st e compared
      → SourceStands st (held_of e) e.bytes compared src v x
      → OffsetStands top.entry_rsp o x
      → MayTag st.values st.same v
      → StandsAt (write st (index_of dst) src v o) (set_var e dst x) compared
  write_stands st e compared (var.Reg r) src v o x h source offset may =
      let P : (ℕ → ℕ) → Type 0 = λ held. Standing (write st (number r) src v o) top held e.flags e.bytes compared in
      subst P (fun_ext (λ q. one q (q == number r) (q == 16) refl refl)) (write_core st (held_of e) e.flags e.bytes compared (number r) src v o x h source offset may)
    where
      one : (q : ℕ) (a b : Bool) → (q == number r) ≡ a → (q == 16) ≡ b → (if a then x else (if b then e.tmp else e.registers q)) ≡ (if b then e.tmp else (if a then x else e.registers q))
      one q true true f g = let small = below_16 r in absurd (let p = eqb-true q (number r) f in let s = eqb-true q 16 g in omega arith)
      one q true false f g = refl
      one q false true f g = refl
      one q false false f g = refl
  write_stands st e compared var.Tmp src v o x h source offset may =
      let P : (ℕ → ℕ) → Type 0 = λ held. Standing (write st 16 src v o) top held e.flags e.bytes compared in
      subst P (fun_ext (λ q. one q (q == 16))) (write_core st (held_of e) e.flags e.bytes compared 16 src v o x h source offset may)
    where
      one : (q : ℕ) (a : Bool) → (if a then x else (if a then e.tmp else e.registers q)) ≡ (if a then x else e.registers q)
      one q true = refl
      one q false = refl

-- ---- (B)

-- the source of the lower state is the upper one's, or the upper one's value is new and above
abbrev pub SourceBelow : Abstract → Option Place → Value → Option Place → Value → Type 0
SourceBelow s src v None v' = Under (value_from s.values v src) v'
SourceBelow s src v (Some p) v' = src ≡ Some p

pub write_below : (s t : Abstract) (d : ℕ) (src src' : Option Place) (v v' : Value) (o o' : Offset)
    → Lower s t → ((p : Place) → s.same p p ≡ true) → SourceBelow s src v src' v' → offset_below o o'
    → Lower (write s d src v o) (write t d src' v' o')
write_below s t d src src' v v' o o' h r source offset =
    record {
      offsets = λ q. by_choice (q == d) (s.offsets q) (t.offsets q) (h.offsets q);
      values = values_below s t cs ct refl agrees h.values;
      sizes = h.sizes;
      same = same_below s t cs ct refl agrees r h.same;
      fact = h.fact;
      probed = h.probed;
      written = h.written;
    }
  where
    cs : Change
    cs = writing_register d src v

    ct : Change
    ct = writing_register d src' v'

    by_choice : (b : Bool) (a a' : Offset) → offset_below a a' → offset_below (if b then o else a) (if b then o' else a')
    by_choice true a a' k = offset
    by_choice false a a' k = k

    written : (q : ℕ) (b : Bool) (x x' : Option Place) → SourceBelow s x v x' v'
        → (((if b then x' else Some (Register q)) ≡ None) × Under (value_from s.values v (if b then x else Some (Register q))) v')
        ⊎ ((p : Place) × ((if b then x else Some (Register q)) ≡ Some p) × ((if b then x' else Some (Register q)) ≡ Some p))
    written q true x None k = inl (refl, k)
    written q true x (Some p) k = inr (p, k, refl)
    written q false x x' k = inr (Register q, refl, refl)

    agrees : (p : Place) → Agrees s cs ct p
    agrees (Register q) = written q (q == d) src src' source
    agrees Compared = inr (Compared, refl, refl)
    agrees (Slot c) = inr (Slot c, refl, refl)
