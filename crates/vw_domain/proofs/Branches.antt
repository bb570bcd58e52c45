-- Flags are set and tested.
use Rattle.std.proofs.Common.{◌≡◌, ℕ, ◌+◌, ◌%◌, ◌^◌, ◌<◌, ◌⊎◌, inl, inr, ⊎_elim, ◌==◌, refl, sym, ap, ◌∙◌, subst, arith}
use Rattle.std.specs.Prelude.{List, Option, Some, None, Bool, true, false, nat_lt, ◌||◌, not}
use Rattle.std.proofs.lemmas.Bool.{eqb-true, ltb-true, false≢true, true≢false}
use Rattle.std.proofs.lemmas.Nat.{mod_below}
use Rattle.vw_insn.specs.Listed.{IsWide}
use Rattle.vw_insn.specs.declared.registers.Width.{Width}
use Rattle.vw_insn.specs.declared.registers.Width.TheVariants.{W8, W16, W32, W64}
use Rattle.vw_insn.specs.declared.operations.Cond.{Cond}
use Rattle.vw_insn.specs.declared.operations.Cond.TheVariants.{B, Ae, E, Ne, Be, A}
use Rattle.vw_insn.specs.Words.{Flags as StatusFlags, low}
use Rattle.vw_insn.specs.Arithmetic.{flags_of_difference, wrapped_difference}
use Rattle.vw_insn.specs.Conditions.{holds}
use Rattle.vw_stmt.specs.declared.operands.Compare.{Compare}
use Rattle.vw_stmt.specs.declared.statement.Stmt.TheVariants as stmt
use Rattle.vw_stmt.specs.Environment.{Environment, Pick, var_value, operand_value}
use Rattle.vw_stmt.specs.Does.{does}
use Rattle.vw_stmt.specs.Lifted.{IsFact}
use Rattle.vw_stmt.specs.Laws.{HasWords}
use Rattle.vw_domain.proofs.ChangeLaws.{values_stand, classes_stand, stay_apart, no_tag, values_below, same_below, Agrees}
use Rattle.vw_domain.proofs.WriteLaws.{some_is, none_is}
use Rattle.vw_domain.proofs.Statements.{held_var, under_const, var_fits, operand_fits, operand_stands, operand_below}
use Rattle.vw_domain.proofs.ValueLaws.{ValueLaws, below_mono, below_lowers, below_kind, equal_mono, equal_lowers, equal_kind}
use Rattle.vw_domain.specs.Statements.{apply, compared_with}
use Rattle.vw_domain.specs.Branches.{Rule, IsLess, Is, rule_of, refiner}
use Rattle.vw_domain.proofs.Standing.{Standing}
use Rattle.vw_names.specs.declared.spot.Spot.{Spot as Place}
use Rattle.vw_names.specs.declared.spot.Spot.TheVariants.{Reg as Register, Flags as Compared, Slot}
use Rattle.vw_values.specs.declared.value.Value.{Value}
use Rattle.vw_values.specs.declared.value.Value.TheVariants.{Any, Const, Index16, EntryPtr, EntryTyped, TagOf}
use Rattle.vw_values.specs.Values.{IsValue, IsNumber}
use Rattle.vw_values.specs.Stands.{Stands}
use Rattle.vw_domain.specs.declared.parts.Fact.{Fact}
use Rattle.vw_domain.specs.declared.parts.Fact.TheVariants as fact
use Rattle.vw_domain.specs.State.{fact_below}
use Rattle.vw_domain.specs.Abstract.{Abstract}
use Rattle.vw_domain.specs.Changes.{Change, flags_from, set_flags, or_else, refined_by, refine, HasEdge, is_other, HasTagEdge}
use Rattle.vw_domain.specs.Sites.{Site, IsSite}
use Rattle.vw_domain.specs.Operands.{index_of, operand_of}
use Rattle.vw_domain.specs.Stands.{Machine, content, FactStands, is_entry, is_index, Tag, tag_register, clashes}
use Rattle.vw_domain.specs.Soundness.{IsPlaced, held_of}
use Rattle.vw_domain.specs.FormRanges.{IsForm}
use Rattle.vw_domain.proofs.Orders.{Under, same, to_any, Lower}

-- ---- (A): Flags

module _ (top : Machine) (site : Site) (st : Abstract) (held : ℕ → ℕ) (flags : StatusFlags) (bytes : ℕ → ℕ) (compared : ℕ)
    (h : Standing st top held flags bytes compared) where
  abbrev ComesFrom : Option Place → ℕ → Type 0
  ComesFrom None x = Unit {0}
  ComesFrom (Some p) x = x ≡ content top.entry_rsp st.sizes held bytes compared p

  pub flags_core : (src : Option Place) (fact : Fact) (x : ℕ) (flags' : StatusFlags) → x < 2 ^ 64 → ComesFrom src x → FactStands fact x flags'
      → Standing (set_flags st src fact) top held flags' bytes x
  flags_core src fact x flags' word source facts =
      record {
        low_end = h.low_end;
        high_end = h.high_end;
        depth = h.depth;
        offsets = h.offsets;
        values = values_stand top.instance held held st change old new (λ r g. refl) keeps (λ p n. tt) h.values;
        classes = classes_stand top.instance held held st change old new (λ r g. refl) keeps (λ p n. tt) h.classes;
        inside = h.inside;
        written = h.written;
        word = word;
        facts = facts;
        kinds = stay_apart st change (λ r g. refl) (λ p n q g e. absurd (no_tag e)) h.kinds;
      }
    where
      change : Change
      change = record { from = flags_from src; fresh = λ p. Any; gone = λ r. false }

      old : Place → ℕ
      old = content top.entry_rsp st.sizes held bytes compared

      new : Place → ℕ
      new = content top.entry_rsp st.sizes held bytes x

      from_source : (s : Option Place) (q : Place) → ComesFrom s x → s ≡ Some q → x ≡ old q
      from_source None q k e = absurd (none_is e)
      from_source (Some p) q k e = k ∙ ap old (some_is e)

      keeps : (p q : Place) → flags_from src p ≡ Some q → new p ≡ old q
      keeps (Register r) q e = ap old (some_is e)
      keeps Compared q e = from_source src q source e
      keeps (Slot c) q e = ap old (some_is e)

module _ (top : Machine) (site : Site) (next : ℕ) (laid : IsPlaced top site next) (laws : ValueLaws) (bounds : IsSite site)
    (loads : (ℕ → ℕ) → ℕ → ℕ → ℕ) (stores : (ℕ → ℕ) → ℕ → ℕ → ℕ → ℕ → ℕ) (pick : Pick)
    (st : Abstract) (e : Environment) (compared : ℕ) (words : HasWords e) (valid : IsForm site.bounds st)
    (h : Standing st top (held_of e) e.flags e.bytes compared) where
  pub flags_stand : (fact : Option Compare) → IsFact fact
      → let e' = does loads stores next (stmt.Flags fact) pick e in (compared' : ℕ) × Standing (apply site (stmt.Flags fact) st) top (held_of e') e'.flags e'.bytes compared'
  flags_stand None f = (compared, flags_core top site st (held_of e) e.flags e.bytes compared h None fact.Unknown compared _ h.word tt tt)
  flags_stand (Some c) f = (x, by_value c.w (operand_of st c.b) f (operand_stands top site next laid laws bounds loads stores pick st e compared words valid h c.b))
    where
      x : ℕ
      x = var_value e c.a

      b : ℕ
      b = operand_value e c.b

      word : x < 2 ^ 64
      word = var_fits top site next laid laws bounds loads stores pick st e compared words valid h c.a

      fits : b < 2 ^ 64
      fits = operand_fits top site next laid laws bounds loads stores pick st e compared words valid h c.b

      by_value : (width : Width) (y : Value) → IsWide width → Stands top.instance (held_of e) y b
          → Standing (compared_with st width (index_of c.a) y) top (held_of e) (flags_of_difference width (low width x) (low width b)) e.bytes x
      by_value W32 (Const d) i s =
          let same_d : b ≡ d = s in
          flags_core top site st (held_of e) e.flags e.bytes compared h (Some (Register (index_of c.a))) (fact.Compare 32 (d % 2 ^ 32)) x _ word (sym (held_var e c.a))
          (ap (λ k. flags_of_difference W32 (x % 2 ^ 32) (k % 2 ^ 32)) same_d)
      by_value W64 (Const d) i s =
          let same_d : b ≡ d = s in
          flags_core top site st (held_of e) e.flags e.bytes compared h (Some (Register (index_of c.a))) (fact.Compare 64 d) x _ word (sym (held_var e c.a))
          (ap (λ k. flags_of_difference W64 x k) same_d)
      by_value W8 (Const d) i s = absurd i
      by_value W16 (Const d) i s = absurd i
      by_value width y i s = flags_core top site st (held_of e) e.flags e.bytes compared h None fact.Unknown x _ word tt tt

-- ---- (B): Flags

flags_agree : (s t : Abstract) (src src' : Option Place) → (src' ≡ None) ⊎ (src' ≡ src) → (p : Place)
    → Agrees s (record { from = flags_from src; fresh = λ p. Any; gone = λ r. false }) (record { from = flags_from src'; fresh = λ p. Any; gone = λ r. false }) p
flags_agree s t src src' a (Register r) = inr (Register r, refl, refl)
flags_agree s t src src' a (Slot o) = inr (Slot o, refl, refl)
flags_agree s t src None a Compared = inl (refl, to_any)
flags_agree s t src (Some p) (inl n) Compared = absurd (none_is (sym n))
flags_agree s t src (Some p) (inr n) Compared = inr (p, sym n, refl)

pub set_flags_below : (s t : Abstract) (src src' : Option Place) (f f' : Fact) → Lower s t → ((p : Place) → s.same p p ≡ true) → (src' ≡ None) ⊎ (src' ≡ src) → fact_below f f'
    → Lower (set_flags s src f) (set_flags t src' f')
set_flags_below s t src src' f f' h r a k =
    record {
      offsets = h.offsets;
      values = values_below s t cs ct refl (flags_agree s t src src' a) h.values;
      sizes = h.sizes;
      same = same_below s t cs ct refl (flags_agree s t src src' a) r h.same;
      fact = k;
      probed = h.probed;
      written = h.written;
    }
  where
    cs : Change
    cs = record { from = flags_from src; fresh = λ p. Any; gone = λ r. false }

    ct : Change
    ct = record { from = flags_from src'; fresh = λ p. Any; gone = λ r. false }

module _ (site : Site) (laws : ValueLaws) (bounds : IsSite site) (s t : Abstract) (below_ : Lower s t) (vs : IsForm site.bounds s) (vt : IsForm site.bounds t) where
  by_lower : (width : Width) (a : ℕ) (y : Value) → Lower (compared_with s width a y) (set_flags t None fact.Unknown)
  by_lower width a (Const c) = set_flags_below s t _ None _ fact.Unknown below_ vs.itself (inl refl) tt
  by_lower width a y = set_flags_below s t _ None _ fact.Unknown below_ vs.itself (inl refl) tt

  compared_with_below : (width : Width) (a : ℕ) (y y' : Value) → Under y y' → Lower (compared_with s width a y) (compared_with t width a y')
  compared_with_below width a y (Const c) k =
      let P : Value → Type 0 = λ z. Lower (compared_with s width a z) (compared_with t width a (Const c)) in
      subst P (sym (under_const y c k)) (set_flags_below s t _ _ _ _ below_ vs.itself (inr refl) (refl, refl))
  compared_with_below width a y y' k = by_lower width a y

  pub flags_mono : (fact : Option Compare) → Lower (apply site (stmt.Flags fact) s) (apply site (stmt.Flags fact) t)
  flags_mono None = set_flags_below s t None None fact.Unknown fact.Unknown below_ vs.itself (inl refl) tt
  flags_mono (Some c) = compared_with_below c.w (index_of c.a) _ _ (operand_below site laws bounds s t below_ vs vt c.b)

-- ---- refinement

-- what a refinement of values must be
pub record Refines (f : Value → Option Value) : Type 0 where
  pub mono : (v v' u : Value) → IsValue v → IsValue v' → Under v v' → f v ≡ Some u → (u' : Value) × (f v' ≡ Some u') × Under u u'
  pub lowers : (v u : Value) → IsValue v → f v ≡ Some u → Under u v
  pub kind : (v u : Value) → f v ≡ Some u → (u ≡ v) ⊎ (IsNumber u)

-- a number that is compared for equality is a word
abbrev pub RuleFits : Rule → Type 0
RuleFits (IsLess k) = Unit {0}
RuleFits (Is k) = k < 2 ^ 64

pub refines : (site : Site) (laws : ValueLaws) (bounds : IsSite site) (w : Width) (rule : Rule) → IsWide w → RuleFits rule → Refines (refiner site w rule)
refines site laws bounds w (IsLess k) wide fits =
    record { mono = λ v v' u. below_mono site laws bounds w k v v' u wide; lowers = λ v u. below_lowers site laws bounds w k v u wide; kind = λ v u. below_kind site.bounds w k v u }
refines site laws bounds w (Is k) wide fits =
    record { mono = λ v v' u. equal_mono site laws bounds w k v v' u wide fits; lowers = λ v u. equal_lowers site laws bounds w k v u wide; kind = λ v u. equal_kind site.bounds w k v u }

number_entry : (u : Value) → IsNumber u → is_entry u ≡ true → ⊥
number_entry (EntryPtr t) n e = n
number_entry (EntryTyped t g) n e = n
number_entry u n e = false≢true e

number_index : (u : Value) → IsNumber u → is_index u ≡ true → ⊥
number_index (Index16 k m) n e = n
number_index u n e = false≢true e

number_tag : (u : Value) (g : Tag) → IsNumber u → tag_register u ≡ Some g → ⊥
number_tag (TagOf t via) g n e = n
number_tag u g n e = no_tag e

-- (A) of refinement, where each value there is refined
module _ (top : Machine) (site : Site) (st : Abstract) (held : ℕ → ℕ) (flags : StatusFlags) (bytes : ℕ → ℕ) (compared : ℕ)
    (h : Standing st top held flags bytes compared)
    (f : Value → Option Value) (is : Refines f)
    (valid : (p : Place) → IsValue (st.values p)) (sound : (v : Value) → IsValue v → Stands top.instance held v compared → (u : Value) × (f v ≡ Some u) × Stands top.instance held u compared) where
  abbrev V : Value → ℕ → Type 0
  V v x = Stands top.instance held v x

  pub has_edge : HasEdge st f
  has_edge p s =
      let P : ℕ → Type 0 = V (st.values p) in
      let got = sound (st.values p) (valid p) (subst P (sym (h.classes Compared p s)) (h.values p)) in
      (got.0, got.1)

  refined_is : (b : Bool) (v : Value) (o : Option Value) → f v ≡ o → (refined_by b f v ≡ v) ⊎ ((u : Value) × (f v ≡ Some u) × (refined_by b f v ≡ u) × (b ≡ true))
  refined_is false v o e = inl refl
  refined_is true v None e = inl (ap (λ x. or_else x v) e)
  refined_is true v (Some u) e = inr (u, e, ap (λ x. or_else x v) e, refl)

  abbrev new : Place → Value
  new p = refined_by (st.same Compared p) f (st.values p)

  values_refined : (p : Place) → V (new p) (content top.entry_rsp st.sizes held bytes compared p)
  values_refined p = by_test (st.same Compared p) refl
    where
      by_test : (b : Bool) → st.same Compared p ≡ b → V (refined_by b f (st.values p)) (content top.entry_rsp st.sizes held bytes compared p)
      by_test false e = h.values p
      by_test true e =
          let there = h.classes Compared p e in
          let P : ℕ → Type 0 = V (st.values p) in
          let got = sound (st.values p) (valid p) (subst P (sym there) (h.values p)) in
          let Q : Option Value → Type 0 = λ o. V (or_else o (st.values p)) (content top.entry_rsp st.sizes held bytes compared p) in
          let R : ℕ → Type 0 = V got.0 in
          subst Q (sym got.1) (subst R there got.2)

  -- a property that no number has was there before
  kept_kind : (P : Value → Type 0) → ((u : Value) → IsNumber u → P u → ⊥) → (p : Place) → P (new p) → P (st.values p)
  kept_kind P none p k = ⊎_elim
      (λ (a : new p ≡ st.values p). subst P a k)
      (λ (b : (u : Value) × (f (st.values p) ≡ Some u) × (new p ≡ u) × (st.same Compared p ≡ true)).
      ⊎_elim (λ (c : b.0 ≡ st.values p). subst P (b.2 ∙ c) k) (λ (n : IsNumber b.0). absurd (none b.0 n (subst P b.2 k))) (is.kind (st.values p) b.0 b.1))
      (refined_is (st.same Compared p) (st.values p) (f (st.values p)) refl)

  number_clash : (at : Bool) (u : Value) → IsNumber u → clashes at u ≡ true → ⊥
  number_clash true u n e = number_index u n e
  number_clash false u n e = number_entry u n e

  pub refined_stands : Standing (refine st f) top held flags bytes compared
  refined_stands =
      record {
        low_end = h.low_end;
        high_end = h.high_end;
        depth = h.depth;
        offsets = h.offsets;
        values = values_refined;
        classes = h.classes;
        inside = h.inside;
        written = h.written;
        word = h.word;
        facts = h.facts;
        kinds = record {
          apart = λ at p q s e i. h.kinds.apart at p q s (kept_kind (λ v. clashes (not at) v ≡ true) (number_clash (not at)) p e) (kept_kind (λ v. clashes at v ≡ true) (number_clash at) q i);
          tags = λ p q g e s c. h.kinds.tags p q g (kept_kind (λ v. tag_register v ≡ Some g) (λ u n k. number_tag u g n k) p e) s (kept_kind (λ v. clashes g.at v ≡ true) (number_clash g.at) q c);
        };
      }

-- (B) of refinement
module _ (members : List ℕ) (s t : Abstract) (below_ : Lower s t) (vs : IsForm members s) (vt : IsForm members t) (f : Value → Option Value) (is : Refines f)
    (trans : (u v x : Value) → IsValue v → IsValue x → Under u v → Under v x → Under u x) where
  -- where the lower one has the edge, the upper one has it
  pub edge_below : HasEdge s f → HasEdge t f
  edge_below edge p e =
      let got = edge p (below_.same Compared p e) in
      let up = is.mono (s.values p) (t.values p) got.0 (vs.values p) (vt.values p) (below_.values p) got.1 in
      (up.0, up.1)

  refined_lower : HasEdge s f → (p : Place) → Under (refined_by (s.same Compared p) f (s.values p)) (s.values p)
  refined_lower edge p = by_test (s.same Compared p) refl
    where
      by_test : (b : Bool) → s.same Compared p ≡ b → Under (refined_by b f (s.values p)) (s.values p)
      by_test false e = same
      by_test true e =
          let got = edge p e in
          let P : Option Value → Type 0 = λ o. Under (or_else o (s.values p)) (s.values p) in
          subst P (sym got.1) (is.lowers (s.values p) got.0 (vs.values p) got.1)

  refined_under : HasEdge s f → (p : Place) → Under (refined_by (s.same Compared p) f (s.values p)) (refined_by (t.same Compared p) f (t.values p))
  refined_under edge p = by_test (t.same Compared p) refl
    where
      by_test : (b : Bool) → t.same Compared p ≡ b → Under (refined_by (s.same Compared p) f (s.values p)) (refined_by b f (t.values p))
      by_test false e = trans _ _ _ (vs.values p) (vt.values p) (refined_lower edge p) (below_.values p)
      by_test true e =
          let e' = below_.same Compared p e in
          let got = edge p e' in
          let up = is.mono (s.values p) (t.values p) got.0 (vs.values p) (vt.values p) (below_.values p) got.1 in
          let P : Bool → Type 0 = λ b. Under (refined_by b f (s.values p)) (or_else (f (t.values p)) (t.values p)) in
          let Q : Option Value → Type 0 = λ o. Under (or_else o (s.values p)) (or_else (f (t.values p)) (t.values p)) in
          let R : Option Value → Type 0 = λ o. Under got.0 (or_else o (t.values p)) in
          subst P (sym e') (subst Q (sym got.1) (subst R (sym up.1) up.2))

  pub refine_below : HasEdge s f → Lower (refine s f) (refine t f)
  refine_below edge =
      record { offsets = below_.offsets; values = refined_under edge; sizes = below_.sizes; same = below_.same; fact = below_.fact; probed = below_.probed; written = below_.written }

  -- the upper one has no fact
  pub refine_lower : HasEdge s f → Lower (refine s f) t
  refine_lower edge =
      record { offsets = below_.offsets; values = λ p. trans _ _ _ (vs.values p) (vt.values p) (refined_lower edge p) (below_.values p); sizes = below_.sizes; same = below_.same; fact = below_.fact; probed = below_.probed; written = below_.written }

-- ---- what an edge says

abbrev pub RuleHolds : Rule → ℕ → Type 0
RuleHolds (IsLess k) x = x < k
RuleHolds (Is k) x = x ≡ k

rule_is : {a b : Rule} → Some a ≡ Some b → a ≡ b
rule_is e = cc

no_rule : {r : Rule} → ◌≡◌ {A = Option Rule} None (Some r) → ⊥
no_rule e = cc

less_of : (x k : ℕ) → nat_lt x k ≡ true → x < k
less_of x k e = ltb-true x k e

not_true : (b : Bool) → not b ≡ false → b ≡ true
not_true true e = refl
not_true false e = absurd (true≢false e)

or_is : (a b : Bool) → (a || b) ≡ true → (a ≡ true) ⊎ (b ≡ true)
or_is true b e = inl refl
or_is false b e = inr e

zero_32 : (x k : ℕ) → x < 2 ^ 32 → k < 2 ^ 32 → (wrapped_difference x k % 2 ^ 32 == 0) ≡ true → x ≡ k
zero_32 x k f g e = let z : wrapped_difference x k % 2 ^ 32 ≡ 0 = eqb-true _ 0 e in omega arith

zero_64 : (x k : ℕ) → x < 2 ^ 64 → k < 2 ^ 64 → (wrapped_difference x k == 0) ≡ true → x ≡ k
zero_64 x k f g e = let z : wrapped_difference x k ≡ 0 = eqb-true _ 0 e in omega arith

-- one more than the numbers of a width
abbrev pub modulus_of : Width → ℕ
modulus_of W8 = 2 ^ 8
modulus_of W16 = 2 ^ 16
modulus_of W32 = 2 ^ 32
modulus_of W64 = 2 ^ 64

equal_when : (w : Width) → IsWide w → (x k : ℕ) → low w x < modulus_of w → k < modulus_of w → (flags_of_difference w (low w x) k).is_zero ≡ true → low w x ≡ k
equal_when W8 i x k f g e = absurd i
equal_when W16 i x k f g e = absurd i
equal_when W32 i x k f g e = zero_32 (x % 2 ^ 32) k f g e
equal_when W64 i x k f g e = zero_64 x k f g e

low_fits : (w : Width) (x : ℕ) → x < 2 ^ 64 → low w x < modulus_of w
low_fits W8 x f = mod_below x (2 ^ 8) (omega arith)
low_fits W16 x f = mod_below x (2 ^ 16) (omega arith)
low_fits W32 x f = mod_below x (2 ^ 32) (omega arith)
low_fits W64 x f = f

abbrev pub compared_flags : Width → ℕ → ℕ → StatusFlags
compared_flags w x k = flags_of_difference w (low w x) k

below_or_equal : (w : Width) → IsWide w → (x k : ℕ) → x < 2 ^ 64 → k < modulus_of w → ((compared_flags w x k).carry || (compared_flags w x k).is_zero) ≡ true → low w x < k + 1
below_or_equal w i x k f g e = ⊎_elim
    (λ (a : nat_lt (low w x) k ≡ true). let l = less_of _ k a in omega arith)
    (λ (b : (compared_flags w x k).is_zero ≡ true). let l = equal_when w i x k (low_fits w x f) g b in omega arith)
    (or_is _ _ e)

-- the condition, and that the branch is taken or not, give the rule
pub rule_holds : (cond : Cond) (taken : Bool) (w : Width) → IsWide w → (x k : ℕ) (rule : Rule) → x < 2 ^ 64 → k < modulus_of w → holds cond (compared_flags w x k) ≡ taken → rule_of cond taken k ≡ Some rule → RuleHolds rule (low w x)
rule_holds B true w i x k rule f g e r = subst (λ z. RuleHolds z (low w x)) (rule_is r) (less_of _ k e)
rule_holds Ae false w i x k rule f g e r = subst (λ z. RuleHolds z (low w x)) (rule_is r) (less_of _ k (not_true _ e))
rule_holds Be true w i x k rule f g e r = subst (λ z. RuleHolds z (low w x)) (rule_is r) (below_or_equal w i x k f g e)
rule_holds A false w i x k rule f g e r = subst (λ z. RuleHolds z (low w x)) (rule_is r) (below_or_equal w i x k f g (not_true _ e))
rule_holds E true w i x k rule f g e r = subst (λ z. RuleHolds z (low w x)) (rule_is r) (equal_when w i x k (low_fits w x f) g e)
rule_holds Ne false w i x k rule f g e r = subst (λ z. RuleHolds z (low w x)) (rule_is r) (equal_when w i x k (low_fits w x f) g (not_true _ e))
rule_holds cond taken w i x k rule f g e r = absurd (no_rule r)

-- the refinement of numbers leaves it open whether a tag is another
pub refined_tags : (st : Abstract) (f : Value → Option Value) → Refines f → (k : ℕ) (tagged : Place → ℕ → Bool) → HasTagEdge st k tagged → HasTagEdge (refine st f) k tagged
refined_tags st f is k tagged h p = by_test (st.same Compared p) (f (st.values p)) refl
  where
    number_other : (u : Value) → IsNumber u → is_other k (tagged p) u ≡ false
    number_other (EntryTyped t g) n = absurd n
    number_other (Index16 j m) n = absurd n
    number_other u n = refl

    by_test : (b : Bool) (o : Option Value) → f (st.values p) ≡ o → is_other k (tagged p) (refined_by b f (st.values p)) ≡ false
    by_test false o e = h p
    by_test true None e = ap (λ x. is_other k (tagged p) (or_else x (st.values p))) e ∙ h p
    by_test true (Some u) e = ap (λ x. is_other k (tagged p) (or_else x (st.values p))) e ∙ ⊎_elim
        (λ (c : u ≡ st.values p). ap (is_other k (tagged p)) c ∙ h p)
        (λ (n : IsNumber u). number_other u n)
        (is.kind (st.values p) u e)
