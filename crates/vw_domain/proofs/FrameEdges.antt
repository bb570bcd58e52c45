-- Whether control may go along an edge, decided at the places that a state can name.
use Rattle.std.proofs.Common.{◌≡◌, ℕ, ◌+◌, ◌-◌, ◌^◌, ◌<◌, ◌⊎◌, inl, inr, List, [], ◌∷◌, get_or, refl, sym, ap, subst, arith}
use Rattle.std.specs.Prelude.{◌↔◌, Option, Some, None, Bool, true, false, ◌||◌, not, is_some, ℤ, pos, negsuc, ◌-ℤ◌}
use Rattle.std.specs.List.{Contains, list_all}
use Rattle.std.proofs.lemmas.Bool.{cases_lt}
use Rattle.std.proofs.lemmas.Int.{ints}
use Rattle.std.proofs.lemmas.List.Elements.{All-contains, Contains-append_left, Contains-append_right}
use Rattle.std.proofs.lemmas.List.Sums.{AllPass-from_list_all, list_all-from_AllPass}
use Rattle.vw_insn.specs.declared.registers.Width.{Width}
use Rattle.vw_names.specs.declared.spot.Spot.{Spot}
use Rattle.vw_names.specs.declared.spot.Spot.TheVariants.{Reg, Flags, Slot}
use Rattle.vw_values.specs.declared.value.Value.{Value}
use Rattle.vw_values.specs.declared.value.Value.TheVariants.{Any}
use Rattle.vw_domain.specs.Registers.{IsWithin}
use Rattle.vw_domain.specs.Abstract.{Abstract, IsFrameSpot}
use Rattle.vw_domain.specs.Branches.{Rule, refiner, rule_number, tags_by, frame_places, may_go, MayGo}
use Rattle.vw_domain.specs.Changes.{is_other, HasEdge, HasTagEdge}
use Rattle.vw_domain.specs.FormLaws
use Rattle.vw_domain.specs.FormRanges.{SlotFits, IsStateForm}
use Rattle.vw_domain.specs.Sites.{Site}
use Rattle.vw_domain.specs.StateOf.{row_of}
use Rattle.vw_domain.proofs.Listings.{row_contains}
use Rattle.vw_domain.proofs.Lowers.{true_not_false, and_both, both_and}

-- ---- the places

abbrev slot_from : ℕ → Spot
slot_from n = Slot (pos n -ℤ pos (2 ^ 32))

-- the number of an offset among those of slots
slot_number : (o : ℤ) → IsWithin (2 ^ 32) o → (n : ℕ) × (n < 2 ^ 33 + 1) × (pos n -ℤ pos (2 ^ 32) ≡ o)
slot_number (pos k) near = let high = near.1 in (k + 2 ^ 32, omega (arith, ints), omega (arith, ints))
slot_number (negsuc k) near = let low = near.0 in (2 ^ 32 - (k + 1), omega (arith, ints), omega (arith, ints))

pub in_frame : (p : Spot) → IsFrameSpot p → Contains frame_places p
unfolding frame_places
in_frame (Reg r) low = Contains-append_left (row_of Reg 17 0) (Flags ∷ row_of slot_from (2 ^ 33 + 1) 0) (Reg r) (row_contains Reg 17 r low)
in_frame Flags within =
    Contains-append_right (row_of Reg 17 0) (Flags ∷ row_of slot_from (2 ^ 33 + 1) 0) Flags
    (Contains-append_left (Flags ∷ []) (row_of slot_from (2 ^ 33 + 1) 0) Flags (0, omega arith, refl))
in_frame (Slot o) within =
    let k = slot_number o within in
    let P : Spot → Type 0 = λ p. Contains (row_of slot_from (2 ^ 33 + 1) 0) p in
    Contains-append_right (row_of Reg 17 0) (Flags ∷ row_of slot_from (2 ^ 33 + 1) 0) (Slot o)
    (Contains-append_right (Flags ∷ []) (row_of slot_from (2 ^ 33 + 1) 0) (Slot o)
    (subst P (ap Slot k.2) (row_contains slot_from (2 ^ 33 + 1) k.0 k.1)))

-- ---- tests

some_of : (in_class : Bool) (x : Option Value) → (not in_class || is_some x) ≡ true → in_class ≡ true → (u : Value) × (x ≡ Some u)
some_of true None h is = absurd (true_not_false (sym h))
some_of true (Some u) h is = (u, refl)
some_of false x h is = absurd (true_not_false (sym is))

of_some : (in_class : Bool) (x : Option Value) → (in_class ≡ true → (u : Value) × (x ≡ Some u)) → (not in_class || is_some x) ≡ true
of_some true x h = ap is_some (h refl).1
of_some false x h = refl

not_true : (b : Bool) → not b ≡ true → b ≡ false
not_true true h = sym h
not_true false h = refl

-- ---- edges

module _ (site : Site) (bounds : List ℕ) (st : Abstract) (valid : IsStateForm bounds st) where
  -- a place that no state names is alone, and nothing is known of it
  record IsOutside (p : Spot) : Type 0 where
    value : st.values p ≡ Any
    apart : st.same Flags p ≡ true → ⊥

  other_register : (r : ℕ) → Flags ≡ Reg r → ⊥
  other_register r e = cc

  other_slot : (o : ℤ) → Flags ≡ Slot o → ⊥
  other_slot o e = cc

  by_slot : (o : ℤ) → SlotFits (st.sizes o) (st.values (Slot o)) → IsWithin (2 ^ 32) o ⊎ IsOutside (Slot o)
  by_slot o (inl none) = inr (record { value = none.1; apart = λ h. other_slot o (valid.form.alone_right Flags o none.0 h) })
  by_slot o (inr (inl wide)) = inl (valid.slots o (λ e. omega arith))
  by_slot o (inr (inr narrow)) = let size = narrow.0 in inl (valid.slots o (λ e. omega arith))

  place_case : (p : Spot) → IsFrameSpot p ⊎ IsOutside p
  place_case (Reg r) = elim (cases_lt r 17) [
    | inl low ↦ inl low
    | inr far ↦ let unknown = valid.registers r far in inr (record { value = unknown.value; apart = λ h. other_register r (unknown.alone Flags (valid.symmetric Flags (Reg r) h)) })
  ]
  place_case Flags = inl tt
  place_case (Slot o) = by_slot o (valid.form.slots o)

  module _ (w : Width) (rule : Rule) where
    abbrev has_refinement : Spot → Bool
    has_refinement p = not (st.same Flags p) || is_some (refiner site w rule (st.values p))

    abbrev tells_other : Spot → Bool
    tells_other p = is_other (rule_number rule) (tags_by st rule frame_places p) (st.values p)

    abbrev tells_none : Spot → Bool
    tells_none p = not (tells_other p)

    edge : list_all has_refinement frame_places ≡ true → HasEdge st (refiner site w rule)
    edge all p in_class = elim (place_case p) [
      | inl within ↦
          some_of (st.same Flags p) (refiner site w rule (st.values p))
          (All-contains (λ x. has_refinement x ≡ true) frame_places p (AllPass-from_list_all has_refinement frame_places all) (in_frame p within)) in_class
      | inr outside ↦ absurd (outside.apart in_class)
    ]

    tag_edge : list_all tells_none frame_places ≡ true → HasTagEdge st (rule_number rule) (tags_by st rule frame_places)
    tag_edge all p = elim (place_case p) [
      | inl within ↦
          not_true (tells_other p)
          (All-contains (λ x. tells_none x ≡ true) frame_places p (AllPass-from_list_all tells_none frame_places all) (in_frame p within))
      | inr outside ↦ ap (is_other (rule_number rule) (tags_by st rule frame_places p)) outside.value
    ]

    all_refined : HasEdge st (refiner site w rule) → list_all has_refinement frame_places ≡ true
    all_refined has =
        list_all-from_AllPass has_refinement frame_places
        (λ k d within. let p = get_or frame_places k d in of_some (st.same Flags p) (refiner site w rule (st.values p)) (has p))

    all_alike : HasTagEdge st (rule_number rule) (tags_by st rule frame_places) → list_all tells_none frame_places ≡ true
    all_alike has = list_all-from_AllPass tells_none frame_places (λ k d within. ap not (has (get_or frame_places k d)))

  decided : (rule : Option (Width × Rule)) → (may_go site frame_places st rule ≡ true) ↔ MayGo site frame_places st rule
  decided None = ((λ h. tt), (λ h. refl))
  decided (Some r) = (
    (λ h.
        let both = and_both (list_all (has_refinement r.0 r.1) frame_places) (list_all (tells_none r.0 r.1) frame_places) h in
        (edge r.0 r.1 both.0, tag_edge r.0 r.1 both.1)),
    (λ h.
        both_and (list_all (has_refinement r.0 r.1) frame_places) (list_all (tells_none r.0 r.1) frame_places) (all_refined r.0 r.1 h.0) (all_alike r.0 r.1 h.1)),
  )

pub edges_are_decided : FormLaws.MayGoIsDecided
edges_are_decided site bounds st rule valid = decided site bounds st valid rule
