-- A division has one list of its classes, and is the only one with that list.
use Rattle.std.proofs.Common.{◌≡◌, ◌≢◌, ◌⊎◌, ℕ, zero, suc, ◌<◌, ◌≤◌, List, [], ◌∷◌, length, get_or, map, refl, sym, ap, subst, ◌∙◌, arith, inl, inr}
use Rattle.std.proofs.lemmas.Bool.{cases_eq}
use Rattle.std.specs.List.{All, Any, AllPairs}
use Rattle.vw_names.specs.declared.spot.Spot.{Spot}
use Rattle.vw_names.specs.declared.spot.Spot.TheVariants.{Flags}
use Rattle.vw_names.specs.Division.{Same}
use Rattle.vw_names.specs.Groups.{Has, first_place, IsGroup, AreGroups}
use Rattle.vw_names.specs.Spot.{number}
use Rattle.vw_domain.proofs.PartLemmas.{has_at, first_is}

-- ---- lists that ascend by a number

tail_all : {X : Type 0} (P : X → Type 0) (x : X) (xs : List X) → All P (x ∷ xs) → All P xs
tail_all P x xs all = λ k d within. all (suc k) d (omega arith)

head_all : {X : Type 0} (P : X → Type 0) (x : X) (xs : List X) → All P (x ∷ xs) → P x
head_all P x xs all = all 0 x (omega arith)

tail_pairs : {X : Type 0} (R : X → X → Type 0) (x : X) (xs : List X) → AllPairs R (x ∷ xs) → AllPairs R xs
tail_pairs R x xs pairs = λ i j d before within. pairs (suc i) (suc j) d (omega arith) (omega arith)

head_pairs : {X : Type 0} (R : X → X → Type 0) (x : X) (xs : List X) → AllPairs R (x ∷ xs) → All (R x) xs
head_pairs R x xs pairs = λ k d within. pairs 0 (suc k) d (omega arith) (omega arith)

-- the list has an item with the number
abbrev HasNumber : {X : Type 0} → (X → ℕ) → List X → ℕ → Type 0
HasNumber f xs n = Any (λ x. f x ≡ n) xs

number_cases : {X : Type 0} (f : X → ℕ) (x : X) (xs : List X) (n : ℕ) → HasNumber f (x ∷ xs) n → (f x ≡ n) ⊎ HasNumber f xs n
number_cases {X} f x xs n has = go has.0 has.1 has.2 has.3 has.4
  where
    go : (k : ℕ) (y : X) → k < length (x ∷ xs) → get_or (x ∷ xs) k y ≡ y → f y ≡ n → (f x ≡ n) ⊎ HasNumber f xs n
    go zero y within is same = inl (ap f is ∙ same)
    go (suc k) y within is same = inr (k, y, omega arith, is, same)

number_above : {X : Type 0} (f : X → ℕ) (xs : List X) (m n : ℕ) → All (λ x. m < f x) xs → HasNumber f xs n → m < n
number_above f xs m n above has =
    let here = above has.0 has.1 has.2 in
    let same = ap f has.3 ∙ has.4 in
    omega arith

abbrev Ascends : {X : Type 0} → (X → ℕ) → List X → Type 0
Ascends f xs = AllPairs (λ a b. f a < f b) xs

-- each item of the first list has its number in the second
abbrev Covers : {X : Type 0} → (X → ℕ) → List X → List X → Type 0
Covers f xs ys = All (λ x. HasNumber f ys (f x)) xs

tail_covers : {X : Type 0} (f : X → ℕ) (x : X) (xs : List X) (y : X) (ys : List X) → Ascends f (x ∷ xs) → f x ≡ f y → Covers f (x ∷ xs) (y ∷ ys) → Covers f xs ys
tail_covers {X} f x xs y ys ascends same covers = λ k d within.
    let above = head_pairs (λ (a b : X). f a < f b) x xs ascends k d within in
    elim (number_cases f y ys (f (get_or xs k d)) (covers (suc k) d (omega arith))) [
      | inl is ↦ absurd (omega arith)
      | inr has ↦ has
    ]

-- Lists that ascend and have the same numbers, and whose items of one number have one image, have the same images.
module _ {X Z : Type 0} (f : X → ℕ) (h : X → Z) (P Q : X → Type 0) (one : (x y : X) → P x → Q y → f x ≡ f y → h x ≡ h y) where
  pub one_list : (xs ys : List X) → Ascends f xs → Ascends f ys → All P xs → All Q ys → Covers f xs ys → Covers f ys xs → map h xs ≡ map h ys
  one_list [] [] a b p q up down = refl
  one_list [] (y ∷ ys) a b p q up down = absurd (let has = down 0 y (omega arith) in let within = has.2 in omega arith)
  one_list (x ∷ xs) [] a b p q up down = absurd (let has = up 0 x (omega arith) in let within = has.2 in omega arith)
  one_list (x ∷ xs) (y ∷ ys) a b p q up down =
      let above_x = head_pairs (λ (c d : X). f c < f d) x xs a in
      let above_y = head_pairs (λ (c d : X). f c < f d) y ys b in
      let heads : f x ≡ f y = elim (number_cases f y ys (f x) (up 0 x (omega arith))) [
        | inl is ↦ sym is
        | inr has ↦
            let less = number_above f ys (f y) (f x) above_y has in
            elim (number_cases f x xs (f y) (down 0 y (omega arith))) [
              | inl is ↦ is
              | inr back ↦ let more = number_above f xs (f x) (f y) above_x back in absurd (omega arith)
            ]
      ] in
      let first : h x ≡ h y = one x y (head_all P x xs p) (head_all Q y ys q) heads in
      let rest : map h xs ≡ map h ys = one_list xs ys (tail_pairs (λ (c d : X). f c < f d) x xs a) (tail_pairs (λ (c d : X). f c < f d) y ys b) (tail_all P x xs p) (tail_all Q y ys q)
      (tail_covers f x xs y ys a heads up) (tail_covers f y ys x xs b (sym heads) down) in
      cc

-- ---- the classes of a division

module _ (division : List (ℕ × ℕ)) where
  group_covers : (g h : List Spot) → IsGroup division g → IsGroup division h → first_place g ≡ first_place h → Covers number g h
  group_covers g h is_g is_h first = λ k d within.
      let a : ℕ = number (get_or g k d) in
      let here : Same division a (first_place g) = (is_g.whole a).0 (has_at g k d within) in
      (is_h.whole a).1 (subst (λ (n : ℕ). Same division a n) first here)

  one_group : (g h : List Spot) → IsGroup division g → IsGroup division h → first_place g ≡ first_place h → map number g ≡ map number h
  one_group g h is_g is_h first =
      one_list number number (λ (p : Spot). Unit {0}) (λ (p : Spot). Unit {0}) (λ a b p q same. same) g h is_g.ascending is_h.ascending (λ k d within. tt) (λ k d within. tt)
      (group_covers g h is_g is_h first) (group_covers h g is_h is_g (sym first))

  pub first_least : (g : List Spot) (a : ℕ) → IsGroup division g → Has g a → first_place g ≤ a
  first_least g a is has =
      let within = has.2 in
      let first = first_is g has.1 (omega arith) in
      let here : number (get_or g has.0 has.1) ≡ a = ap number has.3 ∙ has.4 in
      elim (cases_eq has.0 0) [
        | inl at_first ↦
            let same : number (get_or g has.0 has.1) ≡ number (get_or g 0 has.1) = ap (λ (n : ℕ). number (get_or g n has.1)) at_first in
            omega arith
        | inr later ↦ let less = is.ascending 0 has.0 has.1 (omega arith) within in omega arith
      ]

  in_list : (hs : List (List Spot)) → AreGroups division hs → (group : List Spot) (d : Spot) → IsGroup division group → HasNumber first_place hs (first_place group)
  in_list hs are_h group d one =
      let several = one.several in
      let a : ℕ = first_place group in
      let second : ℕ = number (get_or group 1 d) in
      let first = first_is group d (omega arith) in
      let less = one.ascending 0 1 d (omega arith) (omega arith) in
      let apart : a ≢ second = λ e. omega arith in
      let together : Same division second a = (one.whole second).0 (has_at group 1 d (omega arith)) in
      let at = are_h.complete a second apart (sym together) in
      let h : List Spot = at.1 in
      let is_h : IsGroup division h = subst (λ (x : List Spot). IsGroup division x) at.3 (are_h.each at.0 at.1 at.2) in
      let in_h : Same division a (first_place h) = (is_h.whole a).0 at.4 in
      let back : Has group (first_place h) = (one.whole (first_place h)).1 (sym in_h) in
      let up = first_least group (first_place h) one back in
      let down = first_least h a is_h at.4 in
      (at.0, at.1, at.2, at.3, omega arith)

  -- the first place of a class of one list is that of a class of the other
  lists_cover : (gs hs : List (List Spot)) → AreGroups division gs → AreGroups division hs → Covers first_place gs hs
  lists_cover gs hs are_g are_h = λ i g within. in_list hs are_h (get_or gs i g) Flags (are_g.each i g within)

  pub one_groups : (gs hs : List (List Spot)) → AreGroups division gs → AreGroups division hs → map (map number) gs ≡ map (map number) hs
  one_groups gs hs are_g are_h =
      one_list first_place (map number) (IsGroup division) (IsGroup division) one_group gs hs are_g.ordered are_h.ordered are_g.each are_h.each (lists_cover gs hs are_g are_h) (lists_cover hs gs are_h are_g)
