-- Entries whose keys are taken out by a range.
use Rattle.std.proofs.Common.{◌≡◌, ◌≢◌, ◌⊎◌, ℕ, suc, ◌+◌, ◌-◌, ◌<◌, ◌≤◌, List, [], ◌∷◌, ◌++◌, length, get_or, take, drop, Option, None, refl, sym, ap, subst, ◌∙◌, arith, inl, inr}
use Rattle.std.specs.Prelude.{ℤ, ◌<ℤ◌, ◌≤ℤ◌}
use Rattle.std.specs.List.{All, AllWithin}
use Rattle.std.proofs.lemmas.Bool.{cases_lt}
use Rattle.std.proofs.lemmas.Int.{ints}
use Rattle.std.proofs.lemmas.List.{take-append-drop, length-take, length-drop, length-append, get_or-take, get_or-drop, get_or_append_left, get_or-append_right, drop-drop}
use Rattle.vw_lattice.specs.Entries.{IsAscending, value_at, CutsKeys}
use Rattle.vw_lattice.specs.EntryOrder.{value_at_absent, value_at_without}

pub record CutPlaces {V : Type 0} (xs : List (ℤ × V)) (low high : ℤ) (from to : ℕ) : Type 0 where
  pub from_within : from ≤ length xs
  pub to_within : to ≤ length xs
  pub below_from : AllWithin (λ e. e.0 <ℤ low) xs 0 from
  pub above_from : AllWithin (λ e. low ≤ℤ e.0) xs from (length xs)
  pub below_to : AllWithin (λ e. e.0 <ℤ high) xs 0 to
  pub above_to : AllWithin (λ e. high ≤ℤ e.0) xs to (length xs)

value_at_middle : {V : Type 0} (front mid back : List (ℤ × V)) (key : ℤ) → All (λ e. e.0 ≢ key) mid → value_at (front ++ (mid ++ back)) key ≡ value_at (front ++ back) key
value_at_middle front [] back key apart = refl
value_at_middle front (entry ∷ mid) back key apart =
    value_at_without front entry (mid ++ back) key (λ same. apart 0 entry (omega arith) (sym same)) ∙ value_at_middle front mid back key (λ k d within. apart (suc k) d (omega arith))

module _ {V : Type 0} (xs : List (ℤ × V)) (low high : ℤ) (from to : ℕ) where
  abbrev Cut : List (ℤ × V)
  Cut = take from xs ++ drop to xs

  -- the index in the whole of the entry number k of what is left
  record Stands (d : ℤ × V) (k : ℕ) : Type 0 where
    index : ℕ
    within : index < length xs
    is : get_or Cut k d ≡ get_or xs index d
    where_from : ((k < from) × (index ≡ k)) ⊎ ((from ≤ k) × (index + from ≡ k + to))

  stands : from ≤ to → CutPlaces xs low high from to → (d : ℤ × V) (k : ℕ) → k < length Cut → Stands d k
  stands ordered p d k inside =
      let w = p.from_within in
      let t = p.to_within in
      let size_take = length-take from xs in
      let size_drop = length-drop to xs in
      let size = length-append (take from xs) (drop to xs) in
      let front_size : length (take from xs) ≡ from = omega arith in
      elim (cases_lt k from) [
        | inl front ↦ record {
          index = k;
          within = omega arith;
          is = get_or_append_left (take from xs) (drop to xs) d k (omega arith) ∙ get_or-take from xs k d front;
          where_from = inl (front, refl);
        }
        | inr back ↦ record {
          index = to + (k - from);
          within = omega arith;
          is = get_or-append_right (take from xs) (drop to xs) from k d front_size back ∙ get_or-drop to xs (k - from) d;
          where_from = inr (back, omega arith);
        }
      ]

  cut_inside : from ≤ to → CutPlaces xs low high from to → (key : ℤ) → low ≤ℤ key → key <ℤ high → value_at Cut key ≡ None
  cut_inside ordered p key at_least less = value_at_absent Cut key (λ k d inside.
      let s = stands ordered p d k inside in
      let w = s.within in
      rw (s.is) (elim s.where_from [
        | inl front ↦
            let a = front.0 in
            let b = front.1 in
            let below = p.below_from s.index d (omega arith) (omega arith) in
            λ same. absurd (clash key low high (get_or xs s.index d).0 at_least less same (inl below))
        | inr back ↦
            let a = back.0 in
            let b = back.1 in
            let above = p.above_to s.index d (omega arith) w in
            λ same. absurd (clash key low high (get_or xs s.index d).0 at_least less same (inr above))
      ]))
    where
      clash : (key low high x : ℤ) → low ≤ℤ key → key <ℤ high → x ≡ key → (x <ℤ low) ⊎ (high ≤ℤ x) → ⊥
      clash key low high x a b same (inl less) = omega (arith, ints)
      clash key low high x a b same (inr more) = omega (arith, ints)

  cut_outside : from ≤ to → CutPlaces xs low high from to → (key : ℤ) → (key <ℤ low) ⊎ (high ≤ℤ key) → value_at Cut key ≡ value_at xs key
  cut_outside ordered p key out =
      let n : ℕ = to - from in
      let mid : List (ℤ × V) = take n (drop from xs) in
      let look : List (ℤ × V) → Option V = λ es. value_at es key in
      let w = p.to_within in
      let size = length-take n (drop from xs) in
      let size_drop = length-drop from xs in
      let again : from + n ≡ to = omega arith in
      let rest : drop n (drop from xs) ≡ drop to xs = drop-drop n from xs ∙ ap (λ (i : ℕ). drop i xs) again in
      let back : mid ++ drop to xs ≡ drop from xs = ap (λ (es : List (ℤ × V)). mid ++ es) (sym rest) ∙ take-append-drop n (drop from xs) in
      let whole : take from xs ++ (mid ++ drop to xs) ≡ xs = ap (λ (es : List (ℤ × V)). take from xs ++ es) back ∙ take-append-drop from xs in
      sym (value_at_middle (take from xs) mid (drop to xs) key (λ k d inside.
      let is : get_or mid k d ≡ get_or xs (from + k) d = get_or-take n (drop from xs) k d (omega arith) ∙ get_or-drop from xs k d in
      let above = p.above_from (from + k) d (omega arith) (omega arith) in
      let below = p.below_to (from + k) d (omega arith) (omega arith) in
      rw is (λ same. absurd (clash key low high (get_or xs (from + k) d).0 above below same out)))) ∙ ap look whole
    where
      clash : (key low high x : ℤ) → low ≤ℤ x → x <ℤ high → x ≡ key → (key <ℤ low) ⊎ (high ≤ℤ key) → ⊥
      clash key low high x a b same (inl less) = omega (arith, ints)
      clash key low high x a b same (inr more) = omega (arith, ints)

  cut_ascending : from ≤ to → CutPlaces xs low high from to → IsAscending xs → IsAscending Cut
  cut_ascending ordered p ascends = λ i j d before inside.
      let s = stands ordered p d i (omega arith) in
      let t = stands ordered p d j inside in
      let w = t.within in
      let less : s.index < t.index = elim s.where_from [
        | inl a ↦ let a0 = a.0 in let a1 = a.1 in elim t.where_from [ inl b ↦ let b1 = b.1 in omega arith | inr b ↦ let b0 = b.0 in let b1 = b.1 in omega arith ]
        | inr a ↦ let a0 = a.0 in let a1 = a.1 in elim t.where_from [ inl b ↦ let b0 = b.0 in absurd (omega arith) | inr b ↦ let b1 = b.1 in omega arith ]
      ] in
      rw (s.is, t.is) (ascends s.index t.index d less w)

  -- where the places are the other way round, no key is between the bounds
  cut_nothing : IsAscending xs → CutPlaces xs low high from to → to ≤ from → (key : ℤ) → low ≤ℤ key → key <ℤ high → value_at xs key ≡ None
  cut_nothing ascends p not_less key at_least less = value_at_absent xs key (λ k d inside. elim (cases_lt k from) [
    | inl front ↦ let below = p.below_from k d (omega arith) front in λ same. absurd (clash key low high (get_or xs k d).0 at_least less same (inl below))
    | inr back ↦ let above = p.above_to k d (omega arith) inside in λ same. absurd (clash key low high (get_or xs k d).0 at_least less same (inr above))
  ])
    where
      clash : (key low high x : ℤ) → low ≤ℤ key → key <ℤ high → x ≡ key → (x <ℤ low) ⊎ (high ≤ℤ x) → ⊥
      clash key low high x a b same (inl l) = omega (arith, ints)
      clash key low high x a b same (inr m) = omega (arith, ints)

-- the entries between the places are taken out
pub cuts_keys : {V : Type 0} (xs : List (ℤ × V)) (low high : ℤ) (from to : ℕ) → from ≤ to → CutPlaces xs low high from to → IsAscending xs → CutsKeys low high xs (take from xs ++ drop to xs)
cuts_keys xs low high from to ordered places ascends = record {
  ascending = cut_ascending xs low high from to ordered places ascends;
  inside = cut_inside xs low high from to ordered places;
  outside = cut_outside xs low high from to ordered places;
}

-- there are none
pub cuts_nothing : {V : Type 0} (xs : List (ℤ × V)) (low high : ℤ) (from to : ℕ) → to ≤ from → CutPlaces xs low high from to → IsAscending xs → CutsKeys low high xs xs
cuts_nothing xs low high from to not_less places ascends = record {
  ascending = ascends;
  inside = cut_nothing xs low high from to ascends places not_less;
  outside = λ key out. refl;
}

-- the same in other words for the bounds and the lists
pub cuts_as : {V : Type 0} (low low' high high' : ℤ) (old old' new : List (ℤ × V)) → low' ≡ low → high' ≡ high → old' ≡ old → CutsKeys low' high' old' new → CutsKeys low high old new
cuts_as {V} low low' high high' old old' new low_is high_is old_is cuts =
    let L : ℤ → Type 0 = λ x. CutsKeys x high old new in
    let H : ℤ → Type 0 = λ x. CutsKeys low' x old new in
    let O : List (ℤ × V) → Type 0 = λ es. CutsKeys low' high' es new in
    subst L low_is (subst H high_is (subst O old_is cuts))

pub places_read : {V : Type 0} (xs lent lent' : List (ℤ × V)) (low high low' high' : ℤ) (from to : ℕ) → lent ≡ xs → lent' ≡ xs → low' ≡ low → high' ≡ high → from ≤ length lent → AllWithin (λ e. e.0 <ℤ low') lent 0 from → AllWithin (λ e. low' ≤ℤ e.0) lent from (length lent) → to ≤ length lent' → AllWithin (λ e. e.0 <ℤ high') lent' 0 to → AllWithin (λ e. high' ≤ℤ e.0) lent' to (length lent') → CutPlaces xs low high from to
places_read {V} xs lent lent' low high low' high' from to is is' low_is high_is a b c e f g =
    let P : List (ℤ × V) → ℤ → Type 0 = λ es x. (from ≤ length es) × AllWithin (λ e. e.0 <ℤ x) es 0 from × AllWithin (λ e. x ≤ℤ e.0) es from (length es) in
    let Q : List (ℤ × V) → ℤ → Type 0 = λ es x. (to ≤ length es) × AllWithin (λ e. e.0 <ℤ x) es 0 to × AllWithin (λ e. x ≤ℤ e.0) es to (length es) in
    let p = subst (P xs) low_is (subst (λ (es : List (ℤ × V)). P es low') is (a, b, c)) in
    let q = subst (Q xs) high_is (subst (λ (es : List (ℤ × V)). Q es high') is' (e, f, g)) in
    record { from_within = p.0; below_from = p.1; above_from = p.2; to_within = q.0; below_to = q.1; above_to = q.2 }
