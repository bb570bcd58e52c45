-- Lists whose numbers ascend, by their indices.
use Rattle.std.proofs.Common.{◌≡◌, ◌⊎◌, inl, inr, ℕ, zero, suc, ◌+◌, ◌≤◌, ◌<◌, Bool, true, false, List, [], ◌∷◌, length, get_or, drop, Some, None, refl, sym, ◌∙◌, ap, subst, arith}
use Rattle.std.specs.Prelude.{nat_lt, Contains}
use Rattle.std.specs.List.{slice_get}
use Rattle.std.proofs.lemmas.Bool.Decides.{nat_tests}
use Rattle.std.proofs.lemmas.List.{drop_more, drop_all}
use Rattle.std.proofs.lemmas.Option.{slice_get-get_or, get_or_from_slice_get, slice_get_within}
use Rattle.vw_recheck.specs.Places.{Ascend}

pub some_is : {A : Type 0} {x y : A} → Some x ≡ Some y → x ≡ y
some_is e = cc

pub none_some : {A : Type 0} {x : A} → None ≡ Some x → ⊥
none_some e = cc

pub by_order : (k n : ℕ) → (k < n) ⊎ ((k ≡ n) ⊎ (n < k))
by_order k n = decide (nat_lt k n) (nat_lt n k) refl refl
  where
    decide : (is above : Bool) → nat_lt k n ≡ is → nat_lt n k ≡ above → (k < n) ⊎ ((k ≡ n) ⊎ (n < k))
    decide true above is e = inl (grind (arith, nat_tests, is))
    decide false true is e = inr (inr (grind (arith, nat_tests, e)))
    decide false false is e = inr (inl (grind (arith, nat_tests, is, e)))

module _ {A : Type 0} where
  -- the item with a number is one
  pub same_item : (xs : List A) (j k : ℕ) (x y : A) → j ≡ k → slice_get xs j ≡ Some x → slice_get xs k ≡ Some y → x ≡ y
  same_item xs j k x y same is_x is_y = some_is (sym is_x ∙ (ap (λ (i : ℕ). slice_get xs i) same ∙ is_y))

  pub is_listed : (xs : List A) (k : ℕ) (x : A) → slice_get xs k ≡ Some x → Contains xs x
  is_listed xs k x is = (k, slice_get_within xs k x is, get_or_from_slice_get xs k x x is)

  pub listed_is : (xs : List A) (x : A) (has : Contains xs x) → slice_get xs has.0 ≡ Some x
  listed_is xs x has = slice_get-get_or xs has.0 x has.1 ∙ ap Some has.2

module _ {A : Type 0} (key : A → ℕ) where
  pub above_first : (from : ℕ) (xs : List A) → Ascend key from xs → (k : ℕ) (x : A) → slice_get xs k ≡ Some x → from ≤ key x
  above_first from [] rises k x e = absurd (none_some e)
  above_first from (y ∷ rest) rises zero x e = let same : key y ≡ key x = ap key (some_is e) in omega (arith, same, rises.0)
  above_first from (y ∷ rest) rises (suc k) x e = let later = above_first (suc (key y)) rest rises.1 k x e in omega (arith, rises.0, later)

  pub in_order : (from : ℕ) (xs : List A) → Ascend key from xs → (j k : ℕ) (x y : A) → j < k → slice_get xs j ≡ Some x → slice_get xs k ≡ Some y → key x < key y
  in_order from [] rises j k x y less e f = absurd (none_some e)
  in_order from (z ∷ rest) rises j zero x y less e f = absurd (omega (arith, less))
  in_order from (z ∷ rest) rises zero (suc k) x y less e f =
      let same : key z ≡ key x = ap key (some_is e) in
      let later = above_first (suc (key z)) rest rises.1 k y f in
      omega (arith, same, later)
  in_order from (z ∷ rest) rises (suc j) (suc k) x y less e f = in_order (suc (key z)) rest rises.1 j k x y (omega (arith, less)) e f

  -- The numbers that are left behind the first n ascend from `from` exactly where all ascend.
  pub record AscendBehind (xs : List A) (n from : ℕ) : Type 0 where
    pub whole : Ascend key from (drop n xs) → Ascend key 0 xs
    pub rest : Ascend key 0 xs → Ascend key from (drop n xs)

  pub behind_none : (xs : List A) → AscendBehind xs 0 0
  behind_none xs = record { whole = λ a. a; rest = λ a. a }

  pub behind_more : (xs : List A) (n from : ℕ) (x : A) → n < length xs → x ≡ get_or xs n x → from ≤ key x → AscendBehind xs n from → AscendBehind xs (n + 1) (key x + 1)
  behind_more xs n from x within is less behind = record {
    whole = λ a. behind.whole (subst (λ (ys : List A). Ascend key from ys) (sym next) (less, subst (λ (i : ℕ). Ascend key i (drop (n + 1) xs)) one a));
    rest = λ a. subst (λ (i : ℕ). Ascend key i (drop (n + 1) xs)) (sym one) (subst (λ (ys : List A). Ascend key from ys) next (behind.rest a)).1;
  }
    where
      one : key x + 1 ≡ suc (key x)
      one = omega arith

      next : drop n xs ≡ x ∷ drop (n + 1) xs
      next = drop_more xs n x within ∙ ap (λ (y : A). y ∷ drop (n + 1) xs) (sym is)

  pub behind_all : (xs : List A) (n from : ℕ) → length xs ≤ n → AscendBehind xs n from → Ascend key 0 xs
  behind_all xs n from end behind = behind.whole (subst (λ (ys : List A). Ascend key from ys) (sym (drop_all n xs end)) tt)

  pub behind_out : (xs : List A) (n from : ℕ) (x : A) → n < length xs → x ≡ get_or xs n x → key x < from → AscendBehind xs n from → Ascend key 0 xs → ⊥
  behind_out xs n from x within is less behind ascend =
      let next : drop n xs ≡ x ∷ drop (n + 1) xs = drop_more xs n x within ∙ ap (λ (y : A). y ∷ drop (n + 1) xs) (sym is) in
      let here = subst (λ (ys : List A). Ascend key from ys) next (behind.rest ascend) in
      omega (arith, here.0, less)
