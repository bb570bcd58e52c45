-- A branch's edges, of both kinds of refinement.
use Rattle.std.proofs.Common.{◌≡◌, ℕ, ◌-◌, ◌%◌, ◌^◌, ◌<◌, ⊎_elim, ◌==◌, refl, sym, ap, ◌∙◌, subst, arith}
use Rattle.std.specs.Prelude.{Option, Some, None, Bool, true, false, if◌then◌else◌, ◌&&◌, not, nat_lt}
use Rattle.std.proofs.lemmas.Bool.{ltb-true}
use Rattle.vw_insn.specs.Listed.{IsWide}
use Rattle.vw_insn.specs.declared.registers.Width.{Width}
use Rattle.vw_insn.specs.declared.registers.Width.TheVariants.{W8, W16, W32, W64}
use Rattle.vw_insn.specs.declared.operations.Cond.TheVariants.{B, Ae, E, Ne, Be, A}
use Rattle.vw_insn.specs.declared.operations.Cond.{Cond}
use Rattle.vw_insn.specs.Words.{Flags as StatusFlags, low}
use Rattle.vw_insn.specs.Conditions.{holds}
use Rattle.std.specs.Prelude.{List}
use Rattle.std.proofs.lemmas.Bool.{false≢true}
use Rattle.vw_domain.proofs.Tags.{IsNamed, by_address, by_distance, tag_edge, retag_stands, named_by, retag_below, retag_lower, tag_edge_below}
use Rattle.vw_domain.proofs.Branches.{Refines, RuleHolds, RuleFits, rule_holds, refines, has_edge, refined_stands, compared_flags, modulus_of, refine_below, refine_lower, edge_below, refined_tags}
use Rattle.vw_domain.proofs.ValueLaws.{ValueLaws, below_stands, equal_stands, under_trans, below_good, equal_good}
use Rattle.vw_names.specs.declared.spot.Spot.{Spot as Place}
use Rattle.vw_names.specs.declared.spot.Spot.TheVariants.{Flags as Compared}
use Rattle.vw_values.specs.declared.value.Value.{Value}
use Rattle.vw_values.specs.declared.value.Value.TheVariants.{Index16, EntryPtr, EntryTyped, TagOf}
use Rattle.vw_values.specs.declared.value.Via.{Via}
use Rattle.vw_values.specs.declared.value.Via.TheVariants.{At, Idx}
use Rattle.vw_values.specs.Values.{IsValue}
use Rattle.vw_values.specs.Stands.{Stands}
use Rattle.vw_domain.specs.declared.parts.Fact.{Fact}
use Rattle.vw_domain.specs.declared.parts.Fact.TheVariants as fact
use Rattle.vw_domain.specs.State.{fact_below, IsFact}
use Rattle.vw_domain.specs.Abstract.{Abstract}
use Rattle.vw_domain.specs.Changes.{or_else, refined_by, refine, mark, is_other, retag, HasTagEdge, tagged_by}
use Rattle.vw_domain.specs.Sites.{Site, IsSite}
use Rattle.vw_domain.specs.Stands.{Machine, FactStands, width_of}
use Rattle.vw_domain.specs.Soundness.{IsPlaced}
use Rattle.vw_domain.specs.FormRanges.{IsForm}
use Rattle.vw_domain.proofs.Orders.{Under, same, Lower}
use Rattle.std.proofs.Math.Path.{fun_ext}
use Rattle.vw_values.specs.Values.{IsValid}
use Rattle.vw_domain.specs.Soundness.{HasTables}
use Rattle.vw_domain.specs.Branches.{Rule, IsLess, Is, rule_of, refiner, with_width, rule_at, tags_by, rule_number, MayGo, edge_state}
use Rattle.vw_domain.proofs.Standing.{Standing}
use Rattle.vw_domain.proofs.Orders.{fact_is}

mark_none : (k : ℕ) (tg : ℕ → Bool) (v : Value) → ((t : ℕ) → tg t ≡ false) → mark k tg v ≡ v
mark_none k tg (EntryPtr t) f = ap (λ b. if b then EntryTyped t k else EntryPtr t) (f t)
mark_none k tg (EntryTyped t g) f = ap (λ b. if b then EntryTyped t k else EntryTyped t g) (f t)
mark_none k tg (Index16 j m) f = ap (λ b. if b then Index16 j (Some (0, k)) else Index16 j m) (f 0)
mark_none k tg v f = refl

other_none : (k : ℕ) (tg : ℕ → Bool) (v : Value) → ((t : ℕ) → tg t ≡ false) → is_other k tg v ≡ false
other_none k tg (EntryTyped t g) f = ap (λ b. b && not (g == k)) (f t)
other_none k tg (Index16 j (Some g)) f = ap (λ b. b && not (g.1 == k)) (f 0)
other_none k tg v f = refl

-- ---- rules

pub wide_of : (w : ℕ) → IsWide (width_of w)
wide_of w = by_test (w == 32)
  where
    by_test : (b : Bool) → IsWide (if b then W32 else W64)
    by_test true = tt
    by_test false = tt

no_rule : {r : Rule} → ◌≡◌ {A = Option Rule} None (Some r) → ⊥
no_rule e = cc

one_rule : {a b : Rule} → Some a ≡ Some b → a ≡ b
one_rule e = cc

-- a number that is compared for equality is the fact's
pub fits_of : (cond : Cond) (taken : Bool) (k : ℕ) (rule : Rule) → k < 2 ^ 64 → rule_of cond taken k ≡ Some rule → RuleFits rule
fits_of B true k rule f e = subst RuleFits (one_rule e) tt
fits_of Ae false k rule f e = subst RuleFits (one_rule e) tt
fits_of Be true k rule f e = subst RuleFits (one_rule e) tt
fits_of A false k rule f e = subst RuleFits (one_rule e) tt
fits_of E true k rule f e = subst RuleFits (one_rule e) f
fits_of Ne false k rule f e = subst RuleFits (one_rule e) f
fits_of cond taken k rule f e = absurd (no_rule e)

pub fact_fits : (w k : ℕ) → IsFact (fact.Compare w k) → (k < modulus_of (width_of w)) × (k < 2 ^ 64)
fact_fits w k (i, l) = ⊎_elim
    (λ (e : w ≡ 32). let P : ℕ → Type 0 = λ n. (k < modulus_of (width_of n)) × (k < 2 ^ 64) in
    let l' : k < 2 ^ 32 = subst (λ n. k < 2 ^ n) e l in subst P (sym e) (l', omega arith))
    (λ (e : w ≡ 64). let P : ℕ → Type 0 = λ n. (k < modulus_of (width_of n)) × (k < 2 ^ 64) in
    let l' : k < 2 ^ 64 = subst (λ n. k < 2 ^ n) e l in subst P (sym e) (l', l'))
    i

-- ---- what refinement leaves in range

refined_good : (site : Site) (laws : ValueLaws) (bounds : IsSite site) (w : Width) (rule : Rule) → IsWide w → RuleFits rule → (v u : Value) → IsValid site.bounds v → refiner site w rule v ≡ Some u → IsValid site.bounds u
refined_good site laws bounds w (IsLess k) wide fits v u i e = below_good site laws bounds w k v u wide i e
refined_good site laws bounds w (Is k) wide fits v u i e = equal_good site laws bounds w k v u wide fits i e

module _ (members : List ℕ) (st : Abstract) (valid : IsForm members st) (f : Value → Option Value) (good : (v u : Value) → IsValid members v → f v ≡ Some u → IsValid members u) where
  pub refined_valid : (p : Place) → IsValid members ((refine st f).values p)
  refined_valid p = by_test (st.same Compared p) (f (st.values p)) refl
    where
      here : IsValid members (st.values p)
      here = (valid.values p, valid.among p)

      by_test : (b : Bool) (o : Option Value) → f (st.values p) ≡ o → IsValid members (refined_by b f (st.values p))
      by_test false o g = here
      by_test true None g = subst (λ x. IsValid members (or_else x (st.values p))) (sym g) here
      by_test true (Some u) g = subst (λ x. IsValid members (or_else x (st.values p))) (sym g) (good (st.values p) u here g)

-- ---- (A)

tag_alone : (u : Value) (t : ℕ) (via : Via) → Under u (TagOf t via) → u ≡ TagOf t via
tag_alone u t via same = refl

module _ (top : Machine) (site : Site) (next : ℕ) (laid : IsPlaced top site next) (laws : ValueLaws) (bounds : IsSite site) (tables : HasTables top.instance)
    (st : Abstract) (held : ℕ → ℕ) (flags : StatusFlags) (bytes : ℕ → ℕ) (compared : ℕ) (valid : IsForm site.bounds st)
    (h : Standing st top held flags bytes compared) (places : List Place) where
  abbrev S : Abstract → Type 0
  S s = Standing s top held flags bytes compared

  abbrev pub Takes : Option (Width × Rule) → Type 0
  Takes r = MayGo site places st r × S (edge_state site places st r)

  of_rule : (w : Width) (rule : Rule) → IsWide w → RuleHolds rule (low w compared) → (v : Value) → IsValue v → Stands top.instance held v compared
      → (u : Value) × (refiner site w rule v ≡ Some u) × Stands top.instance held u compared
  of_rule w (IsLess j) wide r v i s = below_stands top site held next laid laws bounds w j v compared wide i h.word s r
  of_rule w (Is j) wide r v i s = equal_stands top site held next laid laws bounds w j v compared wide i h.word s r

  tag_kept : (f : Value → Option Value) → Refines f → (q : Place) (t : ℕ) (via : Via) → st.values q ≡ TagOf t via → (refine st f).values q ≡ TagOf t via
  tag_kept f is q t via e = by_test (st.same Compared q) (f (TagOf t via)) refl
    where
      range : IsValue (TagOf t via)
      range = subst IsValue e (valid.values q)

      by_test : (b : Bool) (o : Option Value) → f (TagOf t via) ≡ o → refined_by b f (st.values q) ≡ TagOf t via
      by_test false o g = e
      by_test true None g = ap (λ x. or_else (f x) x) e ∙ ap (λ x. or_else x (TagOf t via)) g
      by_test true (Some u) g = ap (λ x. or_else (f x) x) e ∙ ap (λ x. or_else x (TagOf t via)) g ∙ tag_alone u t via (is.lowers (TagOf t via) u range g)

  named_refined : (f : Value → Option Value) → Refines f → (p : Place) (t : ℕ) → IsNamed st p t → IsNamed (refine st f) p t
  named_refined f is p t (by_address q r s v c) = by_address q r s (tag_kept f is q t (At r) v) c
  named_refined f is p t (by_distance q r s v c) = by_distance q r s (tag_kept f is q t (Idx r) v) c

  -- where nothing is tagged
  untagged : (s : Abstract) (k : ℕ) (tagged : Place → ℕ → Bool) → ((p : Place) (t : ℕ) → tagged p t ≡ false) → S s → S (retag s k tagged)
  untagged s k tagged f g =
      let P : (Place → Value) → Type 0 = λ values. S (record s { values = values }) in
      subst P (sym (fun_ext (λ p. mark_none k (tagged p) (s.values p) (f p)))) g

  low_is : (w : Width) → IsWide w → (k : ℕ) → k < 2 ^ 32 - 1 → low w compared ≡ k → compared % 2 ^ 32 ≡ k
  low_is W8 wide k small e = absurd wide
  low_is W16 wide k small e = absurd wide
  low_is W32 wide k small e = e
  low_is W64 wide k small e = omega arith

  tagged_edge : (w : Width) (rule : Rule) → IsWide w → RuleFits rule → RuleHolds rule (low w compared) → S (refine st (refiner site w rule))
      → HasTagEdge st (rule_number rule) (tags_by st rule places) × S (retag (refine st (refiner site w rule)) (rule_number rule) (tags_by st rule places))
  tagged_edge w (IsLess k) wide fits e g = ((λ p. other_none k (λ t. false) (st.values p) (λ t. refl)), untagged _ k (λ p t. false) (λ p t. refl) g)
  tagged_edge w (Is k) wide fits e g = by_size (nat_lt k (2 ^ 32 - 1)) refl
    where
      f : Value → Option Value
      f = refiner site w (Is k)

      is : Refines (refiner site w (Is k))
      is = refines site laws bounds w (Is k) wide fits

      by_size : (b : Bool) → nat_lt k (2 ^ 32 - 1) ≡ b → HasTagEdge st k (λ p t. b && tagged_by st places p t) × S (retag (refine st (refiner site w (Is k))) k (λ p t. b && tagged_by st places p t))
      by_size false n = ((λ p. other_none k (λ t. false) (st.values p) (λ t. refl)), untagged _ k (λ p t. false) (λ p t. refl) g)
      by_size true n =
          let small : k < 2 ^ 32 - 1 = ltb-true k (2 ^ 32 - 1) n in
          let is_k = low_is w wide k small e in (
            tag_edge top site st held flags bytes compared laws tables valid.values h k small is_k (tagged_by st places) (λ p t. named_by st places p t),
            retag_stands top site (refine st (refiner site w (Is k))) held flags bytes compared laws tables
                (λ p. (refined_valid site.bounds st valid (refiner site w (Is k)) (refined_good site laws bounds w (Is k) wide fits) p).0) g k small is_k (tagged_by st places)
                (λ p t y. named_refined (refiner site w (Is k)) is p t (named_by st places p t y)),
          )

  by_rule : (cond : Cond) (taken : Bool) → holds cond flags ≡ taken → (w k : ℕ) → st.fact ≡ fact.Compare w k → (o : Option Rule) → rule_of cond taken k ≡ o → Takes (with_width (width_of w) o)
  by_rule cond taken c w k e None r = (tt, h)
  by_rule cond taken c w k e (Some rule) r =
      let wide = wide_of w in
      let fits = fact_fits w k (subst IsFact e valid.fact) in
      let stands : FactStands (fact.Compare w k) compared flags = subst (λ z. FactStands z compared flags) e h.facts in
      let c' : holds cond (compared_flags (width_of w) compared k) ≡ taken = subst (λ z. holds cond z ≡ taken) stands c in
      let rule_is = rule_holds cond taken (width_of w) wide compared k rule h.word fits.0 c' r in
      let small = fits_of cond taken k rule fits.1 r in
      let sound = of_rule (width_of w) rule wide rule_is in
      let is = refines site laws bounds (width_of w) rule wide small in
      let edge = has_edge top site st held flags bytes compared h (refiner site (width_of w) rule) is valid.values sound in
      let refined = refined_stands top site st held flags bytes compared h (refiner site (width_of w) rule) is valid.values sound in
      let tags = tagged_edge (width_of w) rule wide small rule_is refined in
      ((edge, tags.0), tags.1)

  -- where the condition holds, or not, the edge is there, and its state stands
  pub takes : (cond : Cond) (taken : Bool) → holds cond flags ≡ taken → Takes (rule_at cond taken st.fact)
  takes cond taken c = by_fact st.fact refl
    where
      by_fact : (o : Fact) → st.fact ≡ o → Takes (rule_at cond taken o)
      by_fact fact.Unknown e = (tt, h)
      by_fact (fact.Compare w k) e = by_rule cond taken c w k e (rule_of cond taken k) refl

-- ---- (B)

module _ (site : Site) (laws : ValueLaws) (bounds : IsSite site) (s t : Abstract) (below_ : Lower s t) (vs : IsForm site.bounds s) (vt : IsForm site.bounds t)
    (in_s in_t : List Place) (more : (rule : Rule) (p : Place) (n : ℕ) → tags_by t rule in_t p n ≡ true → tags_by s rule in_s p n ≡ true) where
  abbrev Above : Option (Width × Rule) → Option (Width × Rule) → Type 0
  Above a b = MayGo site in_s s a → MayGo site in_t t b × Lower (edge_state site in_s s a) (edge_state site in_t t b)

  plain_above : (w : Width) (rule : Rule) → IsWide w → RuleFits rule → Above (Some (w, rule)) None
  plain_above w rule wide small go =
      let f = refiner site w rule in
      let is = refines site laws bounds w rule wide small in
      let lower = refine_lower site.bounds s t below_ vs vt f is (under_trans site laws bounds) go.0 in
      let ranges : (p : Place) → IsValue ((refine s f).values p) = λ p. (refined_valid site.bounds s vs f (refined_good site laws bounds w rule wide small) p).0 in
      (tt, retag_lower (refine s f) t lower ranges (rule_number rule) (tags_by s rule in_s) (λ p n. false) (λ p n e. absurd (false≢true e)) (refined_tags s f is (rule_number rule) (tags_by s rule in_s) go.1))

  same_rule : (w : Width) (rule : Rule) → IsWide w → RuleFits rule → Above (Some (w, rule)) (Some (w, rule))
  same_rule w rule wide small go =
      let f = refiner site w rule in
      let is = refines site laws bounds w rule wide small in
      let trans = under_trans site laws bounds in
      let above = edge_below site.bounds s t below_ vs vt f is trans go.0 in
      let numbers = refine_below site.bounds s t below_ vs vt f is trans go.0 in
      let ranges : (p : Place) → IsValue ((refine s f).values p) = λ p. (refined_valid site.bounds s vs f (refined_good site laws bounds w rule wide small) p).0 in (
        (above, tag_edge_below s t below_ vs.values (rule_number rule) (tags_by s rule in_s) (tags_by t rule in_t) (more rule) go.1),
        retag_below (refine s f) (refine t f) numbers ranges (rule_number rule) (tags_by s rule in_s) (tags_by t rule in_t) (more rule) (refined_tags s f is (rule_number rule) (tags_by s rule in_s) go.1),
      )

  by_rules : (cond : Cond) (taken : Bool) (w k : ℕ) → IsFact (fact.Compare w k) → (o : Option Rule) → rule_of cond taken k ≡ o → Above (with_width (width_of w) o) (with_width (width_of w) o) × Above (with_width (width_of w) o) None
  by_rules cond taken w k i None e = ((λ go. (tt, below_)), (λ go. (tt, below_)))
  by_rules cond taken w k i (Some rule) e =
      let small = fits_of cond taken k rule (fact_fits w k i).1 e in
      (same_rule (width_of w) rule (wide_of w) small, plain_above (width_of w) rule (wide_of w) small)

  -- an edge below lies under an edge above: that without refinement, where there is no fact above
  pub edge_mono : (cond : Cond) (taken : Bool) → Above (rule_at cond taken s.fact) (rule_at cond taken t.fact)
  edge_mono cond taken = by_facts s.fact t.fact vs.fact below_.fact
    where
      by_facts : (f g : Fact) → IsFact f → fact_below f g → Above (rule_at cond taken f) (rule_at cond taken g)
      by_facts fact.Unknown fact.Unknown i b = λ go. (tt, below_)
      by_facts fact.Unknown (fact.Compare v j) i b = absurd b
      by_facts (fact.Compare w k) fact.Unknown i b = (by_rules cond taken w k i (rule_of cond taken k) refl).1
      by_facts (fact.Compare w k) (fact.Compare v j) i b =
          let P : Fact → Type 0 = λ z. Above (rule_at cond taken (fact.Compare w k)) (rule_at cond taken z) in
          subst P (fact_is (fact.Compare w k) v j b) (by_rules cond taken w k i (rule_of cond taken k) refl).0
