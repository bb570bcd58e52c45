-- The tags that a comparison tells are those of the definition.
use Rattle.std.proofs.Common.{◌≡◌, ℕ, ◌-◌, ◌^◌, ◌<◌, List, get_or, refl, sym, ap, subst, ◌∙◌, Some, inl, inr, Bool, true, is_some, ◌&&◌, ◌==◌, eq-eqb}
use Rattle.std.proofs.Math.Path.{fun_ext}
use Rattle.std.proofs.lemmas.Bool.{lt-ltb, ltb-true, eqb-true}
use Rattle.std.proofs.lemmas.List.Folds.{Any-from_list_any, list_any_at}
use Rattle.std.specs.List.{list_any}
use Rattle.std.specs.Prelude.{ℤ, Option, ◌↔◌}
use Rattle.vw_lattice.specs.Entries.{value_at}
use Rattle.vw_lattice.specs.EntryOrder.{value_at_index, index_of}
use Rattle.vw_names.specs.declared.spot.Spot.{Spot}
use Rattle.vw_names.specs.declared.spot.Spot.TheVariants.{Reg, Flags, Slot}
use Rattle.vw_names.specs.Spot.{slot_number}
use Rattle.vw_values.specs.declared.value.Value.{Value}
use Rattle.vw_values.specs.declared.value.Value.TheVariants.{Any, TagOf}
use Rattle.vw_values.specs.declared.value.Via.{Via}
use Rattle.vw_values.specs.declared.value.Via.TheVariants.{At, Idx}
use Rattle.vw_values.specs.Values.{IsValue, IsTag}
use Rattle.vw_values.specs.Stands.{register_of}
use Rattle.vw_domain.specs.declared.edge_tags.Tags.{Tags}
use Rattle.vw_domain.specs.declared.parts.Parts.{Parts}
use Rattle.vw_domain.specs.declared.refines.Comparison.{Comparison}
use Rattle.vw_domain.specs.declared.refines.Comparison.TheVariants as comparison
use Rattle.vw_domain.specs.Registers.{register_at}
use Rattle.vw_domain.specs.State.{IsState}
use Rattle.vw_domain.specs.Abstract.{Abstract, abstract_of, slot_key, value_of, value_or_any, is_there, is_same}
use Rattle.vw_domain.specs.Branches.{refiner, rule_number, tags_by, MayGo, edge_state}
use Rattle.vw_domain.specs.Changes.{refine, HasEdge, retag, HasTagEdge, names_class, tagged_by}
use Rattle.vw_domain.specs.Refines.{refinement, is_compared, any_below, is_told, is_told_by, is_tagged_at, tells, row_tells, slot_tells, tells_tag, rule_told, HoldsPlaces, AreTags}
use Rattle.vw_domain.specs.Sites.{Site}
use Rattle.vw_domain.proofs.SameLemmas.{one_test}
use Rattle.vw_domain.proofs.WriteLemmas.{some_has, place_value}
use Rattle.vw_domain.proofs.LeaveLemmas.{true_or_false}
use Rattle.vw_domain.proofs.Lowers.{true_not_false, and_both, both_and, or_cases, or_first, or_second}
use Rattle.vw_domain.proofs.EachPlace.{place_of, value_absent}
use Rattle.vw_domain.proofs.EdgeValues.{any_below_has, any_below_at, same_compared}
use Rattle.vw_domain.proofs.Tags.{IsNamed, by_address, by_distance, named_by}

-- ---- a value that is a tag

pub record IsTagBy (r t : ℕ) (v : Value) : Type 0 where
  pub via : Via
  pub is : v ≡ TagOf t via
  pub register : register_of via ≡ r

tells_is : (r t : ℕ) (v : Value) → tells r t v ≡ true → IsTagBy r t v
tells_is r t (TagOf u (At q)) h =
    let parts = and_both (q == r) (u == t) h in
    record { via = At q; is = ap (λ (n : ℕ). TagOf n (At q)) (eqb-true u t parts.1); register = eqb-true q r parts.0 }
tells_is r t (TagOf u (Idx q)) h =
    let parts = and_both (q == r) (u == t) h in
    record { via = Idx q; is = ap (λ (n : ℕ). TagOf n (Idx q)) (eqb-true u t parts.1); register = eqb-true q r parts.0 }
tells_is r t v h = absurd (true_not_false (sym h))

tells_at : (r t : ℕ) (v : Value) → v ≡ TagOf t (At r) → tells r t v ≡ true
tells_at r t v is = ap (tells r t) is ∙ both_and (r == r) (t == t) (eq-eqb r r refl) (eq-eqb t t refl)

tells_idx : (r t : ℕ) (v : Value) → v ≡ TagOf t (Idx r) → tells r t v ≡ true
tells_idx r t v is = ap (tells r t) is ∙ both_and (r == r) (t == t) (eq-eqb r r refl) (eq-eqb t t refl)

-- ---- by the places in the class of the flags

module _ (s : Parts) (is_s : IsState s) where
  abbrev st : Abstract
  st = abstract_of s

  -- a place in the class of the flags with such a value
  pub record IsTold (r t : ℕ) : Type 0 where
    pub place : Spot
    pub there : is_there s place ≡ true
    pub same : is_same s Flags place ≡ true
    pub tag : tells r t (value_of s place) ≡ true

  told_register : (r t q : ℕ) → q < 17 → row_tells s.classes s.registers r t q ≡ true → IsTold r t
  told_register r t q less h =
      let parts = and_both (is_compared s.classes q) (tells r t (register_at s.registers q).value) h in
      let there = lt-ltb q 17 less in
      record { place = Reg q; there = there; same = same_compared s (Reg q) there ∙ parts.0; tag = parts.1 }

  told_slot : (r t : ℕ) (key : ℤ) (v : Value) → value_at s.slots key ≡ Some v → slot_tells s.classes r t (key, v) ≡ true → IsTold r t
  told_slot r t key v found h =
      let parts = and_both (is_compared s.classes (slot_number key)) (tells r t v) h in
      let at = place_of s key v is_s found in
      let found_o : value_at s.slots (slot_key s.slots at.0) ≡ Some v = ap (λ (k : ℤ). value_at s.slots k) at.1 ∙ found in
      let there = ap is_some found_o in
      record {
        place = Slot at.0;
        there = there;
        same = same_compared s (Slot at.0) there ∙ ap (λ (k : ℤ). is_compared s.classes (slot_number k)) at.1 ∙ parts.0;
        tag = ap (λ (x : Option Value). tells r t (value_or_any x)) found_o ∙ parts.1;
      }

  told_place : (r t : ℕ) → is_told_by s r t ≡ true → IsTold r t
  told_place r t h = elim (or_cases (any_below (row_tells s.classes s.registers r t) 17) (list_any (slot_tells s.classes r t) s.slots) h) [
    | inl in_row ↦ let found = any_below_has (row_tells s.classes s.registers r t) 17 in_row in told_register r t found.0 found.1 found.2
    | inr in_slots ↦
        let found = Any-from_list_any (slot_tells s.classes r t) s.slots in_slots in
        let entry : ℤ × Value = found.1 in
        let at : value_at s.slots (get_or s.slots found.0 entry).0 ≡ Some (get_or s.slots found.0 entry).1 = value_at_index s.slots found.0 entry is_s.slots.ascending found.2 in
        let P : ℤ × Value → Type 0 = λ e. value_at s.slots e.0 ≡ Some e.1 in
        told_slot r t entry.0 entry.1 (subst P found.3 at) found.4
  ]

  place_told : (r t : ℕ) (p : Spot) → is_there s p ≡ true → is_same s Flags p ≡ true → tells r t (value_of s p) ≡ true → is_told_by s r t ≡ true
  place_told r t (Reg q) there same tag =
      or_first (any_below (row_tells s.classes s.registers r t) 17) (list_any (slot_tells s.classes r t) s.slots)
      (any_below_at (row_tells s.classes s.registers r t) 17 q (ltb-true q 17 there)
      (both_and (is_compared s.classes q) (tells r t (register_at s.registers q).value) (sym (same_compared s (Reg q) there) ∙ same) tag))
  place_told r t Flags there same tag = absurd (true_not_false (sym tag))
  place_told r t (Slot o) there same tag =
      let key : ℤ = slot_key s.slots o in
      let has = some_has (value_at s.slots key) there in
      let at = index_of s.slots key has.0 has.1 in
      let told : slot_tells s.classes r t (key, has.0) ≡ true =
      both_and (is_compared s.classes (slot_number key)) (tells r t has.0) (sym (same_compared s (Slot o) there) ∙ same)
      (sym (ap (λ (x : Option Value). tells r t (value_or_any x)) has.1) ∙ tag) in
      let P : ℤ × Value → Type 0 = λ e. slot_tells s.classes r t e ≡ true in
      or_second (any_below (row_tells s.classes s.registers r t) 17) (list_any (slot_tells s.classes r t) s.slots)
      (list_any_at (slot_tells s.classes r t) s.slots at.0 (key, has.0) at.1 (ap (λ (k : ℤ). slot_tells s.classes r t (k, (get_or s.slots at.0 (key, has.0)).1)) (at.2 (key, has.0)).0 ∙ ap (λ (v : Value). slot_tells s.classes r t (key, v)) (at.2 (key, has.0)).1 ∙ told))

  -- ---- and by a list that holds those places

  module _ (c : Comparison) (tags : Tags) (places : List Spot) (are : AreTags s c tags) (holds : HoldsPlaces places s) where
    named : (r t : ℕ) (p q : Spot) → tells r t (value_of s q) ≡ true → is_same s (Reg r) p ≡ true → names_class st p t (value_of s q) ≡ true
    named r t p q tag same =
        let by = tells_is r t (value_of s q) tag in
        ap (names_class st p t) by.is
        ∙ both_and (t == t) (is_same s (Reg (register_of by.via)) p) (eq-eqb t t refl) (subst (λ (n : ℕ). is_same s (Reg n) p ≡ true) (sym by.register) same)

    tagged_to : (p : Spot) (t : ℕ) → is_tagged_at st tags.tables p t ≡ true → (tells_tag c ≡ true) × (tagged_by st places p t ≡ true)
    tagged_to p t h =
        let found = any_below_has (λ r. is_told tags.tables r t && is_same s (Reg r) p) 16 h in
        let r : ℕ = found.0 in
        let parts = and_both (is_told tags.tables r t) (is_same s (Reg r) p) found.2 in
        let told = and_both (tells_tag c) (is_told_by s r t) (sym (are.told r t) ∙ parts.0) in
        let at = told_place r t told.1 in
        let listed = holds at.place at.there in
        let f : Spot → Bool = λ q. is_same s Flags q && names_class st p t (value_of s q) in
        let passes : f at.place ≡ true = both_and (is_same s Flags at.place) (names_class st p t (value_of s at.place)) at.same (named r t p at.place at.tag parts.1) in
        (told.0, list_any_at f places listed.0 at.place listed.1 (ap f listed.2 ∙ passes))

    there_tag : (q : Spot) (t : ℕ) (via : Via) → value_of s q ≡ TagOf t via → is_there s q ≡ true
    there_tag q t via is = elim (true_or_false (is_there s q)) [
      | inl there ↦ there
      | inr absent ↦
          let never : Any ≡ TagOf t via = sym (value_absent s q is_s absent) ∙ is in
          absurd (cc)
    ]

    at_register : (p q : Spot) (r t : ℕ) → tells_tag c ≡ true → r < 16 → is_there s q ≡ true → is_same s Flags q ≡ true → tells r t (value_of s q) ≡ true → is_same s (Reg r) p ≡ true → is_tagged_at st tags.tables p t ≡ true
    at_register p q r t tag less there same told reg =
        any_below_at (λ n. is_told tags.tables n t && is_same s (Reg n) p) 16 r less
        (both_and (is_told tags.tables r t) (is_same s (Reg r) p)
        (are.told r t ∙ both_and (tells_tag c) (is_told_by s r t) tag (place_told r t q there same told))
        reg)

    named_from : (p : Spot) (t : ℕ) → tells_tag c ≡ true → IsNamed st p t → is_tagged_at st tags.tables p t ≡ true
    named_from p t tag (by_address q r same is reg) =
        let range : IsValue (TagOf t (At r)) = subst (λ (v : Value). IsValue v) is (place_value s q is_s) in
        at_register p q r t tag range.1 (there_tag q t (At r) is) same (tells_at r t (value_of s q) is) reg
    named_from p t tag (by_distance q r same is reg) =
        let range : IsValue (TagOf t (Idx r)) = subst (λ (v : Value). IsValue v) is (place_value s q is_s) in
        at_register p q r t tag range.1 (there_tag q t (Idx r) is) same (tells_idx r t (value_of s q) is) reg

    both_tests : (p : Spot) (t : ℕ) → is_tagged_at st tags.tables p t ≡ (tells_tag c && tagged_by st places p t)
    both_tests p t = one_test (is_tagged_at st tags.tables p t) (tells_tag c && tagged_by st places p t)
        (λ h. let parts = tagged_to p t h in both_and (tells_tag c) (tagged_by st places p t) parts.0 parts.1)
        (λ h. let parts = and_both (tells_tag c) (tagged_by st places p t) h in named_from p t parts.0 (named_by st places p t parts.1))

    by_rule : (x : Comparison) (p : Spot) (t : ℕ) → (tells_tag x && tagged_by st places p t) ≡ tags_by st (rule_told x).1 places p t
    by_rule (comparison.Below w k) p t = refl
    by_rule (comparison.Equal w k) p t = refl

    pub tags_agree : is_tagged_at st tags.tables ≡ tags_by st (rule_told c).1 places
    tags_agree = fun_ext (λ p. fun_ext (λ t. both_tests p t ∙ by_rule c p t))

small_number : (c : Comparison) → tells_tag c ≡ true → IsTag (rule_number (rule_told c).1)
small_number (comparison.Below w k) h = absurd (true_not_false (sym h))
small_number (comparison.Equal w k) h = ltb-true k (2 ^ 32 - 1) h

pub small_tag : (s : Parts) (c : Comparison) (tags : Tags) → AreTags s c tags → (r t : ℕ) → is_told tags.tables r t ≡ true → IsTag tags.tag
small_tag s c tags are r t h =
    let parts = and_both (tells_tag c) (is_told_by s r t) (sym (are.told r t) ∙ h) in
    subst (λ (k : ℕ). IsTag k) (sym are.tag) (small_number c parts.0)

-- ---- what the rule of an edge leaves of a value is what the comparison leaves

pub refinement_rule : (site : Site) (c : Comparison) (v : Value) → refinement c site.bounds v ≡ refiner site (rule_told c).0 (rule_told c).1 v
refinement_rule site (comparison.Below w k) v = refl
refinement_rule site (comparison.Equal w k) v = refl

module _ (s : Parts) (bounds : List ℕ) (c : Comparison) (tags : Tags) (are : AreTags s c tags) (site : Site) (places : List Spot) (same : site.bounds ≡ bounds) (is_s : IsState s) (holds : HoldsPlaces places s) where
  f_is : refinement c bounds ≡ refiner site (rule_told c).0 (rule_told c).1
  f_is = fun_ext (λ v. ap (λ (b : List ℕ). refinement c b v) (sym same) ∙ refinement_rule site c v)

  pub edge_is : retag (refine (abstract_of s) (refinement c bounds)) tags.tag (is_tagged_at (abstract_of s) tags.tables) ≡ edge_state site places (abstract_of s) (Some (rule_told c))
  edge_is =
      ap (λ (f : Value → Option Value). retag (refine (abstract_of s) f) tags.tag (is_tagged_at (abstract_of s) tags.tables)) f_is
      ∙ ap (λ (k : ℕ). retag (refine (abstract_of s) (refiner site (rule_told c).0 (rule_told c).1)) k (is_tagged_at (abstract_of s) tags.tables)) are.tag
      ∙ ap (λ (tagged : Spot → ℕ → Bool). retag (refine (abstract_of s) (refiner site (rule_told c).0 (rule_told c).1)) (rule_number (rule_told c).1) tagged) (tags_agree s is_s c tags places are holds)

  pub goes_is : (P : Type 0) → P ↔ (HasEdge (abstract_of s) (refinement c bounds) × HasTagEdge (abstract_of s) tags.tag (is_tagged_at (abstract_of s) tags.tables)) → P ↔ MayGo site places (abstract_of s) (Some (rule_told c))
  goes_is P told =
      let Q : (Value → Option Value) → ℕ → (Spot → ℕ → Bool) → Type 0 = λ f k tagged. P ↔ (HasEdge (abstract_of s) f × HasTagEdge (abstract_of s) k tagged) in
      subst (λ (tagged : Spot → ℕ → Bool). Q (refiner site (rule_told c).0 (rule_told c).1) (rule_number (rule_told c).1) tagged) (tags_agree s is_s c tags places are holds)
      (subst (λ (k : ℕ). Q (refiner site (rule_told c).0 (rule_told c).1) k (is_tagged_at (abstract_of s) tags.tables)) are.tag
      (subst (λ (f : Value → Option Value). Q f tags.tag (is_tagged_at (abstract_of s) tags.tables)) f_is told))
