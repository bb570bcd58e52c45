-- The bounds of a function are one ascending list.
use Rattle.std.proofs.Common.{◌≡◌, ◌↔◌, ◌⊎◌, inl, inr, ℕ, ◌+◌, ◌^◌, ◌<◌, ◌≤◌, ◌==◌, Bool, true, false, cond, List, [], ◌∷◌, ◌++◌, refl, sym, ◌∙◌, ap, subst, arith}
use Rattle.std.specs.Prelude.{filter, nat_le, nat_lt, Option, None, Some, Result, Ok, Err, IfOk}
use Rattle.std.specs.List.{All}
use Rattle.std.proofs.lemmas.Bool.Decides.{nat_tests}
use Rattle.std.proofs.lemmas.List.Elements.{All-contains}
use Rattle.vw_decode.specs.Lexing.{Found, insn_found, read}
use Rattle.vw_values.specs.Bounds.{powers, IsMember, IsAscending, IsBounds, IsBoundOf}
use Rattle.vw_values.proofs.MadeBounds.{member-contains}
use Rattle.vw_values.proofs.PowerLemmas.{power-member, power-range}
use Rattle.vw_state.specs.Bounds.{counted_immediate, is_in_range, bounds_near, bounds_read, bounds_in, powers_from, place_bound, ascending, bounds_of}

-- ---- members

member_either : (xs ys : List ℕ) (m : ℕ) → IsMember (xs ++ ys) m → IsMember xs m ⊎ IsMember ys m
member_either [] ys m h = inr h
member_either (x ∷ xs) ys m (inl e) = inl (inl e)
member_either (x ∷ xs) ys m (inr h) = elim (member_either xs ys m h) [ inl l ↦ inl (inr l) | inr r ↦ inr r ]

member_first : (xs ys : List ℕ) (m : ℕ) → IsMember xs m → IsMember (xs ++ ys) m
member_first [] ys m h = absurd h
member_first (x ∷ xs) ys m (inl e) = inl e
member_first (x ∷ xs) ys m (inr h) = inr (member_first xs ys m h)

member_second : (xs ys : List ℕ) (m : ℕ) → IsMember ys m → IsMember (xs ++ ys) m
member_second [] ys m h = h
member_second (x ∷ xs) ys m h = inr (member_second xs ys m h)

by_test : (P : List ℕ → Type 0) (test : Bool) (xs ys : List ℕ) → (test ≡ true → P xs) → (test ≡ false → P ys) → P (cond test xs ys)
by_test P true xs ys f g = f refl
by_test P false xs ys f g = g refl

of_kept : (p : ℕ → Bool) (xs : List ℕ) (m : ℕ) → IsMember (filter p xs) m → IsMember xs m × (p m ≡ true)
of_kept p [] m h = absurd h
of_kept p (x ∷ xs) m h =
    by_test (λ ys. IsMember ys m → IsMember (x ∷ xs) m × (p m ≡ true)) (p x) (x ∷ filter p xs) (filter p xs)
    (λ is there. elim there [ inl e ↦ (inl e, subst (λ n. p n ≡ true) e is) | inr r ↦ let rest = of_kept p xs m r in (inr rest.0, rest.1) ])
    (λ is there. let rest = of_kept p xs m there in (inr rest.0, rest.1))
    h

kept : (p : ℕ → Bool) (xs : List ℕ) (m : ℕ) → IsMember xs m → p m ≡ true → IsMember (filter p xs) m
kept p [] m h passes = absurd h
kept p (x ∷ xs) m (inl e) passes =
    by_test (λ ys. IsMember ys m) (p x) (x ∷ filter p xs) (filter p xs) (λ is. inl e) (λ is. absurd (let both : false ≡ true = sym is ∙ (ap p e ∙ passes) in cc))
kept p (x ∷ xs) m (inr r) passes =
    let rest = kept p xs m r passes in
    by_test (λ ys. IsMember ys m) (p x) (x ∷ filter p xs) (filter p xs) (λ is. inr rest) (λ is. rest)

-- ---- placing

by_order : (P : List ℕ → Type 0) (less same : Bool) (xs ys zs : List ℕ) → (less ≡ true → P xs) → (less ≡ false → same ≡ true → P ys) → (less ≡ false → same ≡ false → P zs)
    → P (cond less xs (cond same ys zs))
by_order P true same xs ys zs f g h = f refl
by_order P false true xs ys zs f g h = g refl refl
by_order P false false xs ys zs f g h = h refl refl

of_placed : (k : ℕ) (xs : List ℕ) (m : ℕ) → IsMember (place_bound k xs) m → (k ≡ m) ⊎ IsMember xs m
of_placed k [] m h = h
of_placed k (j ∷ rest) m h =
    by_order (λ ys. IsMember ys m → (k ≡ m) ⊎ IsMember (j ∷ rest) m) (nat_lt k j) (k == j) (k ∷ j ∷ rest) (j ∷ rest) (j ∷ place_bound k rest)
    (λ less there. there)
    (λ less same there. inr there)
    (λ less same there. elim there [ inl e ↦ inr (inl e) | inr r ↦ elim (of_placed k rest m r) [ inl e ↦ inl e | inr s ↦ inr (inr s) ] ])
    h

placed : (k : ℕ) (xs : List ℕ) (m : ℕ) → (k ≡ m) ⊎ IsMember xs m → IsMember (place_bound k xs) m
placed k [] m h = h
placed k (j ∷ rest) m h =
    by_order (λ ys. (k ≡ m) ⊎ IsMember (j ∷ rest) m → IsMember ys m) (nat_lt k j) (k == j) (k ∷ j ∷ rest) (j ∷ rest) (j ∷ place_bound k rest)
    (λ less there. there)
    (λ less same there. elim there [ inl e ↦ inl (let is : k ≡ j = grind (arith, nat_tests, same) in sym is ∙ e) | inr r ↦ r ])
    (λ less same there. elim there [ inl e ↦ inr (placed k rest m (inl e)) | inr r ↦ elim r [ inl e ↦ inl e | inr s ↦ inr (placed k rest m (inr s)) ] ])
    h

placed_ascends : (k : ℕ) (xs : List ℕ) → IsAscending xs → IsAscending (place_bound k xs)
placed_ascends k [] a = (λ m h. absurd h, tt)
placed_ascends k (j ∷ rest) a =
    by_order IsAscending (nat_lt k j) (k == j) (k ∷ j ∷ rest) (j ∷ rest) (j ∷ place_bound k rest)
    (λ less. (λ m h. let first : k < j = grind (arith, nat_tests, less) in elim h [ inl e ↦ omega (arith, first, e) | inr r ↦ let more = a.0 m r in omega (arith, first, more) ], a))
    (λ less same. a)
    (λ less same.
    let first : j < k = grind (arith, nat_tests, less, same) in
    (λ m h. elim (of_placed k rest m h) [ inl e ↦ omega (arith, first, e) | inr r ↦ a.0 m r ], placed_ascends k rest a.1))

ascends : (xs : List ℕ) → IsAscending (ascending xs)
ascends [] = tt
ascends (k ∷ rest) = placed_ascends k (ascending rest) (ascends rest)

of_ascending : (xs : List ℕ) (m : ℕ) → IsMember (ascending xs) m → IsMember xs m
of_ascending [] m h = h
of_ascending (k ∷ rest) m h = elim (of_placed k (ascending rest) m h) [ inl e ↦ inl e | inr r ↦ inr (of_ascending rest m r) ]

in_ascending : (xs : List ℕ) (m : ℕ) → IsMember xs m → IsMember (ascending xs) m
in_ascending [] m h = h
in_ascending (k ∷ rest) m (inl e) = placed k (ascending rest) m (inl e)
in_ascending (k ∷ rest) m (inr r) = placed k (ascending rest) m (inr (in_ascending rest m r))

-- ascending lists with the same members are one list
one_list : (xs ys : List ℕ) → IsAscending xs → IsAscending ys → ((m : ℕ) → IsMember xs m ↔ IsMember ys m) → xs ≡ ys
one_list [] [] a b same = refl
one_list [] (y ∷ ys) a b same = absurd ((same y).1 (inl refl))
one_list (x ∷ xs) [] a b same = absurd ((same x).0 (inl refl))
one_list (x ∷ xs) (y ∷ ys) a b same =
    let first : x ≡ y = firsts ((same x).0 (inl refl)) ((same y).1 (inl refl)) in
    ap (λ n. n ∷ xs) first ∙ ap (λ ms. y ∷ ms) (one_list xs ys a.1 b.1 (λ m. (to first m, from first m)))
  where
    firsts : IsMember (y ∷ ys) x → IsMember (x ∷ xs) y → x ≡ y
    firsts (inl e) h = sym e
    firsts (inr r) (inl e) = e
    firsts (inr r) (inr s) = absurd (let low = b.0 x r in let high = a.0 y s in omega (arith, low, high))

    to : x ≡ y → (m : ℕ) → IsMember xs m → IsMember ys m
    to first m h = elim ((same m).0 (inr h)) [ inl e ↦ absurd (let low = a.0 m h in omega (arith, low, e, first)) | inr r ↦ r ]

    from : x ≡ y → (m : ℕ) → IsMember ys m → IsMember xs m
    from first m h = elim ((same m).1 (inr h)) [ inl e ↦ absurd (let low = b.0 m h in omega (arith, low, e, first)) | inr r ↦ r ]

-- ---- the bounds of a function

in_range : (m : ℕ) → is_in_range m ≡ true → (1 ≤ m) × (m ≤ 2 ^ 32)
in_range m e = (grind (arith, nat_tests), grind (arith, nat_tests))

near_range : (i : Option ℕ) (m : ℕ) → IsMember (bounds_near i) m → (1 ≤ m) × (m ≤ 2 ^ 32)
near_range None m h = absurd h
near_range (Some i) m h = in_range m (of_kept is_in_range (i ∷ (i + 1) ∷ []) m h).1

read_range : (found : Option Found) (m : ℕ) → IsMember (bounds_read found) m → (1 ≤ m) × (m ≤ 2 ^ 32)
read_range None m h = absurd h
read_range (Some f) m h = near_range (counted_immediate (insn_found f)) m h

code_range : (code : List ℕ) (m : ℕ) → IsMember (bounds_in code) m → (1 ≤ m) × (m ≤ 2 ^ 32)
code_range [] m h = absurd h
code_range (byte ∷ rest) m h =
    elim (member_either (bounds_read (read (byte ∷ rest))) (bounds_in rest) m h) [ inl l ↦ read_range (read (byte ∷ rest)) m l | inr r ↦ code_range rest m r ]

powers_are : powers_from 0 34 ≡ powers
unfolding powers
powers_are = refl

module _ (code lengths : List ℕ) (few : All (λ n. n ≤ 65536) lengths) where
  length_small : (m : ℕ) → IsMember lengths m → m ≤ 65536
  length_small m h = All-contains (λ n. n ≤ 65536) lengths m few (member-contains lengths m h)

  abbrev gathered : List ℕ
  gathered = powers_from 0 34 ++ filter (nat_le 1) lengths ++ bounds_in code

  of_lengths : (m : ℕ) → IsMember (filter (nat_le 1) lengths) m → IsBoundOf (lengths ++ bounds_in code) m
  of_lengths m h =
      let is = of_kept (nat_le 1) lengths m h in
      inr (member_first lengths (bounds_in code) m is.0, grind (arith, nat_tests, is.1), (let small = length_small m is.0 in omega (arith, small)))

  of_code : (m : ℕ) → IsMember (bounds_in code) m → IsBoundOf (lengths ++ bounds_in code) m
  of_code m h = let range = code_range code m h in inr (member_second lengths (bounds_in code) m h, range.0, range.1)

  of_gathered : (m : ℕ) → IsMember gathered m → IsBoundOf (lengths ++ bounds_in code) m
  of_gathered m h =
      elim (member_either (powers_from 0 34 ++ filter (nat_le 1) lengths) (bounds_in code) m h) [
        | inl l ↦ elim (member_either (powers_from 0 34) (filter (nat_le 1) lengths) m l) [ inl p ↦ inl (subst (λ xs. IsMember xs m) powers_are p) | inr f ↦ of_lengths m f ]
        | inr r ↦ of_code m r
      ]

  in_gathered : (m : ℕ) → IsBoundOf (lengths ++ bounds_in code) m → IsMember gathered m
  in_gathered m (inl p) = member_first (powers_from 0 34 ++ filter (nat_le 1) lengths) (bounds_in code) m (member_first (powers_from 0 34) (filter (nat_le 1) lengths) m (subst (λ xs. IsMember xs m) (sym powers_are) p))
  in_gathered m (inr r) =
      elim (member_either lengths (bounds_in code) m r.0) [
        | inl l ↦ member_first (powers_from 0 34 ++ filter (nat_le 1) lengths) (bounds_in code) m (member_second (powers_from 0 34) (filter (nat_le 1) lengths) m (kept (nat_le 1) lengths m l (grind (arith, nat_tests, r.1))))
        | inr c ↦ member_second (powers_from 0 34 ++ filter (nat_le 1) lengths) (bounds_in code) m c
      ]

  bound_range : (m : ℕ) → IsBoundOf (lengths ++ bounds_in code) m → (1 ≤ m) × ((m ≤ 2 ^ 32) ⊎ (m ≡ 2 ^ 33))
  bound_range m (inl p) = power-range m p
  bound_range m (inr r) = (r.1, inl r.2)

  -- its members are the powers of two, the numbers of entries, and those near the immediates
  pub bounds_members : (m : ℕ) → IsMember (bounds_of code lengths) m ↔ IsBoundOf (lengths ++ bounds_in code) m
  unfolding bounds_of
  bounds_members m = (λ h. of_gathered m (of_ascending gathered m h), λ h. in_ascending gathered m (in_gathered m h))

  bounds_ascend : IsAscending (bounds_of code lengths)
  unfolding bounds_of
  bounds_ascend = ascends gathered

  pub are_bounds : IsBounds (bounds_of code lengths)
  are_bounds = record {
    ascending = bounds_ascend;
    powers = λ i h. (bounds_members (2 ^ i)).1 (inl (power-member i h));
    positive = λ m h. (bound_range m ((bounds_members m).0 h)).0;
    range = λ m h. (bound_range m ((bounds_members m).0 h)).1;
  }

  -- bounds with these members are those of the function
  pub bounds_are : (members bounds : List ℕ) → members ≡ lengths ++ bounds_in code → IsBounds bounds → ((m : ℕ) → IsMember bounds m ↔ IsBoundOf members m) → bounds ≡ bounds_of code lengths
  bounds_are members bounds is made same =
      one_list bounds (bounds_of code lengths) made.ascending bounds_ascend
      (λ m. (λ h. (bounds_members m).1 (subst (λ xs. IsBoundOf xs m) is ((same m).0 h)), λ h. (same m).1 (subst (λ xs. IsBoundOf xs m) (sym is) ((bounds_members m).0 h))))

  pub made_are : {E : Type 0} (members : List ℕ) → members ≡ lengths ++ bounds_in code → (made : Result (List ℕ) E) → IfOk made IsBounds → IfOk made (λ bounds. (m : ℕ) → IsMember bounds m ↔ IsBoundOf members m)
      → IfOk made (λ bounds. bounds ≡ bounds_of code lengths)
  made_are members is (Ok bounds) ascend same = bounds_are members bounds is ascend same
  made_are members is (Err e) ascend same = tt
