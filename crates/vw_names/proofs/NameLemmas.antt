-- What is in a class with another place stays a register, the flags or a slot.
use Rattle.std.proofs.Common.{◌≡◌, ◌≢◌, ◌↔◌, ℕ, List, [], sym, ap, subst, ◌∙◌, inl, inr}
use Rattle.std.proofs.lemmas.Bool.{cases_eq}
use Rattle.vw_names.specs.Division.{root, IsDivision, Same, IsAlone, IsSameBut, IsRefinement, Follows}
use Rattle.vw_names.specs.Spot.{IsPlaceNumber, NamesPlaces}

pub names_none : NamesPlaces []
names_none a b apart same = absurd (apart same)

-- the least place of a place's class
pub names_root : (xs : List (ℕ × ℕ)) (x : ℕ) → IsDivision xs → NamesPlaces xs → IsPlaceNumber x → IsPlaceNumber (root xs x)
names_root xs x division names place = elim (cases_eq (root xs x) x) [
  | inl is ↦ subst (λ (n : ℕ). IsPlaceNumber n) (sym is) place
  | inr apart ↦ names (root xs x) x apart (division.settled x)
]

pub names_left : (old new : List (ℕ × ℕ)) (place : ℕ) → IsAlone new place → IsSameBut place old new → NamesPlaces old → NamesPlaces new
names_left old new place alone others names = λ a b apart same. elim (cases_eq a place) [
  | inl is ↦ absurd (apart (is ∙ sym (alone b (ap (root new) (sym is) ∙ same))))
  | inr a_apart ↦ elim (cases_eq b place) [
    | inl is ↦ absurd (a_apart (alone a (ap (root new) (sym is) ∙ sym same)))
    | inr b_apart ↦ names a b apart ((others a b a_apart b_apart).0 same)
  ]
]

pub names_entered : (old new : List (ℕ × ℕ)) (place least : ℕ) → least ≢ place → IsSameBut place old new → Same new place least → IsPlaceNumber place → IsPlaceNumber least → NamesPlaces old → NamesPlaces new
names_entered old new place least least_apart others joined is_place is_least names = λ a b apart same. elim (cases_eq a place) [
  | inl is ↦ subst (λ (n : ℕ). IsPlaceNumber n) (sym is) is_place
  | inr a_apart ↦ elim (cases_eq b place) [
    | inl is ↦ elim (cases_eq a least) [
      | inl at_least ↦ subst (λ (n : ℕ). IsPlaceNumber n) (sym at_least) is_least
      | inr other ↦ names a least other ((others a least a_apart least_apart).0 (same ∙ ap (root new) is ∙ joined))
    ]
    | inr b_apart ↦ names a b apart ((others a b a_apart b_apart).0 same)
  ]
]

pub names_refined : (left right common : List (ℕ × ℕ)) → IsRefinement left right common → NamesPlaces left → NamesPlaces common
names_refined left right common refines names = λ a b apart same. names a b apart ((refines a b).0 same).0

-- a place leaves its class, and then enters that of another
pub followed : (p o least : ℕ) (old mid new : List (ℕ × ℕ)) → p ≢ o → least ≡ root mid o → IsDivision mid → IsAlone mid p → IsSameBut p old mid → IsSameBut p mid new → Same new p least → Follows p o old new
followed p o least old mid new apart least_is division alone left entered joined =
    let with_other : Same mid least o = ap (root mid) least_is ∙ division.settled o in
    let least_apart : least ≢ p = λ same. apart (sym (alone o (ap (root mid) (sym same) ∙ with_other))) in
    let other_apart : o ≢ p = λ same. apart (sym same) in
    record {
      others = λ a b a_apart b_apart.
          let f = left a b a_apart b_apart in
          let g = entered a b a_apart b_apart in
          (λ same. f.0 (g.0 same), λ same. g.1 (f.1 same));
      joined = λ other. joined ∙ (entered least o least_apart other_apart).1 with_other;
      alone = λ same. absurd (apart same);
    }

pub followed_as : (place other p o least : ℕ) (whole inside old mid lent new : List (ℕ × ℕ)) → p ≡ place → o ≡ other → inside ≡ whole → old ≡ inside → lent ≡ mid → p ≢ o → least ≡ root lent o → IsDivision mid → IsAlone mid p → IsSameBut p old mid → IsSameBut p mid new → Same new p least → Follows place other whole new
followed_as place other p o least whole inside old mid lent new p_is o_is inside_is old_is lent_is apart least_is division alone left entered joined =
    let L : List (ℕ × ℕ) → Type 0 = λ es. Follows place other es new in
    let O : ℕ → Type 0 = λ x. Follows place x old new in
    let P : ℕ → Type 0 = λ x. Follows x o old new in
    let R : List (ℕ × ℕ) → ℕ = λ es. root es o in
    subst L (old_is ∙ inside_is) (subst O o_is (subst P p_is (followed p o least old mid new apart (least_is ∙ ap R lent_is) division alone left entered joined)))
