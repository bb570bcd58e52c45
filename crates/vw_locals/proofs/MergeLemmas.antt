-- A range is merged with those that it touches.
use Rattle.std.proofs.Common.{◌≡◌, ◌≢◌, ◌⊎◌, ℕ, suc, ◌+◌, ◌-◌, ◌<◌, ◌≤◌, true, ◌&&◌, ◌||◌, List, [], ◌∷◌, ◌++◌, length, get_or, take, drop, set, refl, sym, ap, subst, ◌∙◌, arith, inl, inr}
use Rattle.std.specs.Prelude.{ℤ, pos, ◌<ℤ◌, ◌≤ℤ◌, ◌+ℤ◌, int_le}
use Rattle.std.specs.List.{AllWithin, remove, insert}
use Rattle.std.proofs.lemmas.List.Edits.{remove-append_right}
use Rattle.std.proofs.lemmas.Bool.{cases_lt, cases_eq, or_cases, or_left, or_right, and_parts, and_from}
use Rattle.std.proofs.lemmas.Bool.Decides.{same_from_decides}
use Rattle.std.proofs.lemmas.Int.{ints, clamps, by_lt_z}
use Rattle.std.proofs.lemmas.List.{take-append-drop, get_or_default, get_or_at, get_or_append_left, get_or-append_right, get_or-take, get_or-drop, length-take, length-drop, length-append, take_more_set, drop-set-lt, append_assoc, length-take-le, drop-drop}
use Rattle.vw_locals.specs.Ranges.{is_written, IsRanges, IsApart, IsReached, IsHull, IsAdded}
use Rattle.vw_locals.specs.RangeOrder.{IsInRange, le_from, le_to, written_cases, written_here, written_there}
use Rattle.vw_locals.proofs.SearchLemmas.{written_at, index_of}

-- ---- parts of a list

pub append_cases : (front back : List (ℤ × ℤ)) (x : ℤ) → is_written (front ++ back) x ≡ true → (is_written front x ≡ true) ⊎ (is_written back x ≡ true)
append_cases [] back x is = inr is
append_cases (r ∷ front) back x is = elim (written_cases r (front ++ back) x is) [
  | inl here ↦ inl (written_here r front x here)
  | inr there ↦ elim (append_cases front back x there) [
    | inl in_front ↦ inl (written_there r front x in_front)
    | inr in_back ↦ inr in_back
  ]
]

pub append_left : (front back : List (ℤ × ℤ)) (x : ℤ) → is_written front x ≡ true → is_written (front ++ back) x ≡ true
append_left [] back x is = absurd (cc)
append_left (r ∷ front) back x is = elim (written_cases r front x is) [
  | inl here ↦ written_here r (front ++ back) x here
  | inr there ↦ written_there r (front ++ back) x (append_left front back x there)
]

pub append_right : (front back : List (ℤ × ℤ)) (x : ℤ) → is_written back x ≡ true → is_written (front ++ back) x ≡ true
append_right [] back x is = is
append_right (r ∷ front) back x is = written_there r (front ++ back) x (append_right front back x is)

-- what a range says of an offset, as a test
pub in_to : (range : ℤ × ℤ) (x : ℤ) → IsInRange range x → (int_le range.0 x && int_le x range.1) ≡ true
in_to range x is = and_from (int_le range.0 x) (int_le x range.1) (le_to range.0 x is.low) (le_to x range.1 is.high)

pub in_from : (range : ℤ × ℤ) (x : ℤ) → (int_le range.0 x && int_le x range.1) ≡ true → IsInRange range x
in_from range x is = let both = and_parts (int_le range.0 x) (int_le x range.1) is in record { low = le_from range.0 x both.0; high = le_from x range.1 both.1 }

-- ---- the merge

pub record Merges (range merged : ℤ × ℤ) (xs : List (ℤ × ℤ)) (from to : ℕ) : Type 0 where
  pub ordered : from ≤ to
  pub within : to ≤ length xs
  pub below : AllWithin (λ r. IsApart r range) xs 0 from
  pub reach : AllWithin (λ r. IsReached r range) xs from (length xs)
  pub touch : AllWithin (λ r. IsReached range r) xs 0 to
  pub above : AllWithin (λ r. IsApart range r) xs to (length xs)
  pub low : merged.0 ≤ℤ range.0
  pub high : range.1 ≤ℤ merged.1
  pub low_mid : (k : ℕ) → from ≤ k → k < to → merged.0 ≤ℤ (get_or xs k (pos 0, pos 0)).0
  pub high_mid : (k : ℕ) → from ≤ k → k < to → (get_or xs k (pos 0, pos 0)).1 ≤ℤ merged.1
  pub tight_low : (merged.0 ≡ range.0) ⊎ ((from < to) × (merged.0 ≡ (get_or xs from (pos 0, pos 0)).0))
  pub tight_high : (merged.1 ≡ range.1) ⊎ ((from < to) × (merged.1 ≡ (get_or xs (to - 1) (pos 0, pos 0)).1))

module _ (range merged : ℤ × ℤ) (xs : List (ℤ × ℤ)) (from to : ℕ) where
  abbrev pub Result : List (ℤ × ℤ)
  Result = take from xs ++ merged ∷ drop to xs

  pub merged_sound : Merges range merged xs from to → (x : ℤ) → is_written Result x ≡ true → IsInRange range x ⊎ (is_written xs x ≡ true)
  merged_sound m x is =
      let d : ℤ × ℤ = (pos 0, pos 0) in
      let inside = m.within in
      elim (append_cases (take from xs) (merged ∷ drop to xs) x is) [
        | inl in_front ↦ inr (subst (λ (es : List (ℤ × ℤ)). is_written es x ≡ true) (take-append-drop from xs) (append_left (take from xs) (drop from xs) x in_front))
        | inr in_back ↦ elim (written_cases merged (drop to xs) x in_back) [
          | inr behind ↦ inr (subst (λ (es : List (ℤ × ℤ)). is_written es x ≡ true) (take-append-drop to xs) (append_right (take to xs) (drop to xs) x behind))
          | inl here ↦
              let a = here.low in
              let b = here.high in
              by_lt_z x range.0
              (λ less. elim m.tight_low [
                | inl own ↦ absurd (omega (arith, ints))
                | inr other ↦
                    let reach = m.reach from d (omega arith) (let o = other.0 in omega arith) in
                    let is_low = other.1 in
                    inr (written_at xs from d x (let o = other.0 in omega arith) (omega (arith, ints)) (omega (arith, ints)))
              ])
              (λ not_less. by_lt_z range.1 x
              (λ more. elim m.tight_high [
                | inl own ↦ absurd (omega (arith, ints))
                | inr other ↦
                    let some = other.0 in
                    let touch = m.touch (to - 1) d (omega arith) (omega arith) in
                    let is_high = other.1 in
                    inr (written_at xs (to - 1) d x (omega arith) (omega (arith, ints)) (omega (arith, ints)))
              ])
              (λ not_more. inl (record { low = not_less; high = not_more })))
        ]
      ]

  pub merged_complete : Merges range merged xs from to → (x : ℤ) → IsInRange range x ⊎ (is_written xs x ≡ true) → is_written Result x ≡ true
  merged_complete m x (inl here) =
      let a = here.low in
      let b = here.high in
      let l = m.low in
      let h = m.high in
      append_right (take from xs) (merged ∷ drop to xs) x (written_here merged (drop to xs) x (record { low = omega (arith, ints); high = omega (arith, ints) }))
  merged_complete m x (inr there) =
      let d : ℤ × ℤ = (pos 0, pos 0) in
      let i = index_of xs x there in
      let k : ℕ = i.index in
      let within = i.within in
      let o = m.ordered in
      let t = m.within in
      let a = i.low in
      let b = i.high in
      elim (cases_lt k from) [
        | inl front ↦
            let size = length-take from xs in
            let is = get_or-take from xs k d front in
            let P : ℤ × ℤ → Type 0 = λ r. r.0 ≤ℤ x in
            let Q : ℤ × ℤ → Type 0 = λ r. x ≤ℤ r.1 in
            append_left (take from xs) (merged ∷ drop to xs) x (written_at (take from xs) k d x (omega arith) (subst P (sym is) a) (subst Q (sym is) b))
        | inr not_front ↦ elim (cases_lt k to) [
          | inl mid ↦
              let l = m.low_mid k not_front mid in
              let h = m.high_mid k not_front mid in
              append_right (take from xs) (merged ∷ drop to xs) x (written_here merged (drop to xs) x (record { low = omega (arith, ints); high = omega (arith, ints) }))
          | inr back ↦
              let size = length-drop to xs in
              let again : to + (k - to) ≡ k = omega arith in
              let is : get_or (drop to xs) (k - to) d ≡ get_or xs k d = get_or-drop to xs (k - to) d ∙ ap (λ (n : ℕ). get_or xs n d) again in
              let P : ℤ × ℤ → Type 0 = λ r. r.0 ≤ℤ x in
              let Q : ℤ × ℤ → Type 0 = λ r. x ≤ℤ r.1 in
              append_right (take from xs) (merged ∷ drop to xs) x (written_there merged (drop to xs) x (written_at (drop to xs) (k - to) d x (omega arith) (subst P (sym is) a) (subst Q (sym is) b)))
        ]
      ]

  pub added : Merges range merged xs from to → IsAdded range xs Result
  added m = λ x. same_from_decides (is_written Result x) ((int_le range.0 x && int_le x range.1) || is_written xs x)
      (λ is. is, λ is. is) (
        λ is. merged_complete m x (elim (or_cases (int_le range.0 x && int_le x range.1) (is_written xs x) is) [ inl here ↦ inl (in_from range x here) | inr there ↦ inr there ]),
        λ is. elim (merged_sound m x is) [
          | inl here ↦ or_left (int_le range.0 x && int_le x range.1) (is_written xs x) (in_to range x here)
          | inr there ↦ or_right (int_le range.0 x && int_le x range.1) (is_written xs x) there
        ],
      )

  -- what stands at a place of the result
  pub data Stands (d : ℤ × ℤ) (k : ℕ) : Type 0 where
    in_front : k < from → get_or Result k d ≡ get_or xs k d → Stands d k
    in_middle : k ≡ from → get_or Result k d ≡ merged → Stands d k
    in_back : (m : ℕ) → from < k → m + from + 1 ≡ k + to → m < length xs → get_or Result k d ≡ get_or xs m d → Stands d k

  pub stands : Merges range merged xs from to → (d : ℤ × ℤ) (k : ℕ) → k < length Result → Stands d k
  stands m d k inside =
      let size_take = length-take from xs in
      let size_drop = length-drop to xs in
      let size = length-append (take from xs) (merged ∷ drop to xs) in
      let o = m.ordered in
      let t = m.within in
      let front_size : length (take from xs) ≡ from = omega arith in
      elim (cases_lt k from) [
        | inl front ↦ in_front front (get_or_append_left (take from xs) (merged ∷ drop to xs) d k (omega arith) ∙ get_or-take from xs k d front)
        | inr not_front ↦ elim (cases_eq k from) [
          | inl here ↦ in_middle here (get_or_at (take from xs) merged (drop to xs) d k (front_size ∙ sym here))
          | inr behind ↦
              let n : ℕ = k - from - 1 in
              let one_more : k - from ≡ suc n = omega arith in
              let is : get_or Result k d ≡ get_or xs (to + n) d = get_or-append_right (take from xs) (merged ∷ drop to xs) from k d front_size not_front ∙ ap (λ (j : ℕ). get_or (merged ∷ drop to xs) j d) one_more ∙ get_or-drop to xs n d in
              in_back (to + n) (omega arith) (omega arith) (omega arith) is
        ]
      ]

  pub merged_ranges : Merges range merged xs from to → IsRanges xs → range.0 ≤ℤ range.1 → IsRanges Result
  merged_ranges m is filled = record {
    filled = λ k d inside. elim (stands m d k inside) [
      | in_front less at ↦
          let o = m.ordered in
          let t = m.within in
          rw at (is.filled k d (omega arith))
      | in_middle same at ↦
          let l = m.low in
          let h = m.high in
          rw at (omega (arith, ints))
      | in_back n less sum within at ↦ rw at (is.filled n d within)
    ];
    apart = λ i j d before inside. elim (stands m d i (omega arith)) [
      | in_front i_less i_at ↦ elim (stands m d j inside) [
        | in_front j_less j_at ↦
            let o = m.ordered in
            let t = m.within in
            rw (i_at, j_at) (is.apart i j d before (omega arith))
        | in_middle j_same j_at ↦ rw (i_at, j_at) (front_middle m is d i i_less)
        | in_back n j_less sum within j_at ↦
            let o = m.ordered in
            rw (i_at, j_at) (is.apart i n d (omega arith) within)
      ]
      | in_middle i_same i_at ↦ elim (stands m d j inside) [
        | in_front j_less j_at ↦ absurd (omega arith)
        | in_middle j_same j_at ↦ absurd (omega arith)
        | in_back n j_less sum within j_at ↦ rw (i_at, j_at) (middle_back m is d n (omega arith) within)
      ]
      | in_back n i_less sum within i_at ↦ elim (stands m d j inside) [
        | in_front j_less j_at ↦ absurd (omega arith)
        | in_middle j_same j_at ↦ absurd (omega arith)
        | in_back n' j_less sum' within' j_at ↦ rw (i_at, j_at) (is.apart n n' d (omega arith) within')
      ]
    ];
  }
    where
      front_middle : Merges range merged xs from to → IsRanges xs → (d : ℤ × ℤ) (i : ℕ) → i < from → ((get_or xs i d).1 +ℤ pos 1) <ℤ merged.0
      front_middle m is d i less = elim m.tight_low [
        | inl own ↦ let b = m.below i d (omega arith) less in omega (arith, ints)
        | inr other ↦
            let some = other.0 in
            let low = other.1 in
            let t = m.within in
            let a = is.apart i from d less (omega arith) in
            let same : (get_or xs from d).0 ≡ (get_or xs from (pos 0, pos 0)).0 = ap (λ (r : ℤ × ℤ). r.0) (get_or_default xs from d (pos 0, pos 0) (omega arith)) in
            omega (arith, ints)
      ]

      middle_back : Merges range merged xs from to → IsRanges xs → (d : ℤ × ℤ) (n : ℕ) → to ≤ n → n < length xs → (merged.1 +ℤ pos 1) <ℤ (get_or xs n d).0
      middle_back m is d n behind within = elim m.tight_high [
        | inl own ↦ let a = m.above n d behind within in omega (arith, ints)
        | inr other ↦
            let some = other.0 in
            let high = other.1 in
            let a = is.apart (to - 1) n d (omega arith) within in
            let same : (get_or xs (to - 1) d).1 ≡ (get_or xs (to - 1) (pos 0, pos 0)).1 = ap (λ (r : ℤ × ℤ). r.1) (get_or_default xs (to - 1) d (pos 0, pos 0) (omega arith)) in
            omega (arith, ints)
      ]

-- ---- a range in the place of others

pub replaced : (xs : List (ℤ × ℤ)) (from to : ℕ) (m : ℤ × ℤ) → from < to → to ≤ length xs → take (from + 1) (set xs from m) ++ drop to (set xs from m) ≡ take from xs ++ m ∷ drop to xs
replaced xs from to m some within =
    let front : take (from + 1) (set xs from m) ≡ take from xs ++ m ∷ [] = take_more_set xs from m (omega arith) in
    let back : drop to (set xs from m) ≡ drop to xs = drop-set-lt to xs from m some in
    let F : List (ℤ × ℤ) → List (ℤ × ℤ) = λ es. es ++ drop to (set xs from m) in
    let G : List (ℤ × ℤ) → List (ℤ × ℤ) = λ es. (take from xs ++ m ∷ []) ++ es in
    ap F front ∙ ap G back ∙ append_assoc (take from xs) (m ∷ []) (drop to xs)

-- ---- in the words of the code

pub record Places (range : ℤ × ℤ) (xs : List (ℤ × ℤ)) (from to : ℕ) : Type 0 where
  pub from_within : from ≤ length xs
  pub to_within : to ≤ length xs
  pub below : AllWithin (λ r. IsApart r range) xs 0 from
  pub reach : AllWithin (λ r. IsReached r range) xs from (length xs)
  pub touch : AllWithin (λ r. IsReached range r) xs 0 to
  pub above : AllWithin (λ r. IsApart range r) xs to (length xs)

pub in_order : (range : ℤ × ℤ) (xs : List (ℤ × ℤ)) (from to : ℕ) → IsRanges xs → range.0 ≤ℤ range.1 → Places range xs from to → from ≤ to
in_order range xs from to is filled p = elim (cases_lt to from) [
  | inr fine ↦ fine
  | inl less ↦
      let d : ℤ × ℤ = (pos 0, pos 0) in
      let w = p.from_within in
      let b = p.below to d (omega arith) less in
      let a = p.above to d (omega arith) (omega arith) in
      let f = is.filled to d (omega arith) in
      absurd (omega (arith, ints))
]

pub merges_alone : (range : ℤ × ℤ) (xs : List (ℤ × ℤ)) (from to : ℕ) → IsRanges xs → range.0 ≤ℤ range.1 → Places range xs from to → to ≤ from → Merges range range xs from from
merges_alone range xs from to is filled p not_less =
    let o = in_order range xs from to is filled p in
    let same : to ≡ from = omega arith in
    record {
      ordered = omega arith;
      within = p.from_within;
      below = p.below;
      reach = p.reach;
      touch = subst (λ (n : ℕ). AllWithin (λ r. IsReached range r) xs 0 n) same p.touch;
      above = subst (λ (n : ℕ). AllWithin (λ r. IsApart range r) xs n (length xs)) same p.above;
      low = omega (arith, ints);
      high = omega (arith, ints);
      low_mid = λ k at_least less. absurd (omega arith);
      high_mid = λ k at_least less. absurd (omega arith);
      tight_low = inl refl;
      tight_high = inl refl;
    }

pub merges_hull : (range first merged : ℤ × ℤ) (xs : List (ℤ × ℤ)) (from to : ℕ) → IsRanges xs → range.0 ≤ℤ range.1 → Places range xs from to → from < to → IsHull range (get_or xs from (pos 0, pos 0)) first → IsHull first (get_or xs (to - 1) (pos 0, pos 0)) merged → Merges range merged xs from to
merges_hull range first merged xs from to is filled p some hull_first hull_merged =
    let d : ℤ × ℤ = (pos 0, pos 0) in
    let w = p.to_within in
    let a = hull_first.first in
    let b = hull_first.last in
    let e = hull_merged.first in
    let f = hull_merged.last in
    let fill_from = is.filled from d (omega arith) in
    let fill_to = is.filled (to - 1) d (omega arith) in
    let order = steps is from (to - 1) (omega arith) (omega arith) in
    let order_low = order.0 in
    let order_high = order.1 in
    record {
      ordered = omega arith;
      within = w;
      below = p.below;
      reach = p.reach;
      touch = p.touch;
      above = p.above;
      low = omega (arith, ints, clamps);
      high = omega (arith, ints, clamps);
      low_mid = λ k at_least less.
          let order_k = (steps is from k at_least (omega arith)).0 in
          omega (arith, ints, clamps);
      high_mid = λ k at_least less.
          let order_k = (steps is k (to - 1) (omega arith) (omega arith)).1 in
          omega (arith, ints, clamps);
      tight_low = by_lt_z (get_or xs from d).0 range.0
          (λ lower. inr (some, omega (arith, ints, clamps)))
          (λ not_lower. inl (omega (arith, ints, clamps)));
      tight_high = by_lt_z range.1 (get_or xs (to - 1) d).1
          (λ higher. inr (some, omega (arith, ints, clamps)))
          (λ not_higher. inl (omega (arith, ints, clamps)));
    }
  where
    steps : IsRanges xs → (i j : ℕ) → i ≤ j → j < length xs → ((get_or xs i (pos 0, pos 0)).0 ≤ℤ (get_or xs j (pos 0, pos 0)).0) × ((get_or xs i (pos 0, pos 0)).1 ≤ℤ (get_or xs j (pos 0, pos 0)).1)
    steps is i j at_least within = elim (cases_eq i j) [
      | inl same ↦ (subst (λ (n : ℕ). (get_or xs i (pos 0, pos 0)).0 ≤ℤ (get_or xs n (pos 0, pos 0)).0) same (omega (arith, ints)), subst (λ (n : ℕ). (get_or xs i (pos 0, pos 0)).1 ≤ℤ (get_or xs n (pos 0, pos 0)).1) same (omega (arith, ints)))
      | inr other ↦
          let d : ℤ × ℤ = (pos 0, pos 0) in
          let a = is.apart i j d (omega arith) within in
          let f = is.filled i d (omega arith) in
          let g = is.filled j d within in
          (omega (arith, ints), omega (arith, ints))
    ]

-- ---- what touches

module _ (xs : List (ℤ × ℤ)) (range : ℤ × ℤ) (at : ℕ) where
  -- of the ranges that end below, the last alone can be adjacent
  pub below_adjacent : (x : ℤ) → x ≡ range.0 → IsRanges xs → 0 < at → at ≤ length xs → ((get_or xs (at - 1) (pos 0, pos 0)).1 +ℤ pos 1) ≡ range.0 → AllWithin (λ r. IsApart r range) xs 0 (at - 1)
  below_adjacent x same is some within adjacent = λ k d low less.
      let a = is.apart k (at - 1) d less (omega arith) in
      let f = is.filled (at - 1) d (omega arith) in
      let last : (get_or xs (at - 1) d).1 ≡ (get_or xs (at - 1) (pos 0, pos 0)).1 = ap (λ (r : ℤ × ℤ). r.1) (get_or_default xs (at - 1) d (pos 0, pos 0) (omega arith)) in
      omega (arith, ints)

  pub below_apart : (x : ℤ) → x ≡ range.0 → IsRanges xs → at ≤ length xs → AllWithin (λ r. r.1 <ℤ x) xs 0 at → (0 < at → ((get_or xs (at - 1) (pos 0, pos 0)).1 +ℤ pos 1) ≢ range.0) → AllWithin (λ r. IsApart r range) xs 0 at
  below_apart x same is within below apart = λ k d low less. elim (cases_eq k (at - 1)) [
    | inl here ↦
        let some : 0 < at = omega arith in
        let last : (get_or xs k d).1 ≡ (get_or xs (at - 1) (pos 0, pos 0)).1 = ap (λ (n : ℕ). (get_or xs n d).1) here ∙ ap (λ (r : ℤ × ℤ). r.1) (get_or_default xs (at - 1) d (pos 0, pos 0) (omega arith)) in
        let b = below k d low less in
        strictly ((get_or xs k d).1 +ℤ pos 1) range.0 (omega (arith, ints)) (λ e. apart some (ap (λ (z : ℤ). z +ℤ pos 1) (sym last) ∙ e))
    | inr other ↦
        let a = is.apart k (at - 1) d (omega arith) (omega arith) in
        let f = is.filled (at - 1) d (omega arith) in
        let b = below (at - 1) d (omega arith) (omega arith) in
        omega (arith, ints)
  ]
    where
      strictly : (a b : ℤ) → a ≤ℤ b → a ≢ b → a <ℤ b
      strictly a b at_most no_same = by_lt_z a b (λ less. less) (λ not_less. let e : a ≡ b = omega (arith, ints) in absurd (no_same e))

  pub above_adjacent : (x : ℤ) → x ≡ range.1 → IsRanges xs → at < length xs → (range.1 +ℤ pos 1) ≡ (get_or xs at (pos 0, pos 0)).0 → AllWithin (λ r. IsApart range r) xs (at + 1) (length xs)
  above_adjacent x same is within adjacent = λ k d low less.
      let a = is.apart at k d (omega arith) less in
      let f = is.filled at d within in
      let first : (get_or xs at d).0 ≡ (get_or xs at (pos 0, pos 0)).0 = ap (λ (r : ℤ × ℤ). r.0) (get_or_default xs at d (pos 0, pos 0) within) in
      omega (arith, ints)

  pub above_apart : (x : ℤ) → x ≡ range.1 → IsRanges xs → AllWithin (λ r. x <ℤ r.0) xs at (length xs) → (at < length xs → (range.1 +ℤ pos 1) ≢ (get_or xs at (pos 0, pos 0)).0) → AllWithin (λ r. IsApart range r) xs at (length xs)
  above_apart x same is above apart = λ k d low less. elim (cases_eq k at) [
    | inl here ↦
        let within : at < length xs = omega arith in
        let first : (get_or xs k d).0 ≡ (get_or xs at (pos 0, pos 0)).0 = ap (λ (n : ℕ). (get_or xs n d).0) here ∙ ap (λ (r : ℤ × ℤ). r.0) (get_or_default xs at d (pos 0, pos 0) within) in
        let b = above k d low less in
        strictly (range.1 +ℤ pos 1) (get_or xs k d).0 (omega (arith, ints)) (λ e. apart within (e ∙ first))
    | inr other ↦
        let a = is.apart at k d (omega arith) less in
        let f = is.filled at d (omega arith) in
        let b = above at d (omega arith) (omega arith) in
        omega (arith, ints)
  ]
    where
      strictly : (a b : ℤ) → a ≤ℤ b → a ≢ b → a <ℤ b
      strictly a b at_most no_same = by_lt_z a b (λ less. less) (λ not_less. let e : a ≡ b = omega (arith, ints) in absurd (no_same e))

-- ---- taking out the merged ranges, one at a time

pub one_less : (xs : List (ℤ × ℤ)) (p j : ℕ) → p ≤ length xs → remove (take p xs ++ drop j xs) p ≡ take p xs ++ drop (j + 1) xs
one_less xs p j within =
    let size : length (take p xs) ≡ p = length-take-le p xs within in
    let none : p - p ≡ 0 = omega arith in
    let F : ℕ → List (ℤ × ℤ) = λ n. take p xs ++ remove (drop j xs) n in
    let G : List (ℤ × ℤ) → List (ℤ × ℤ) = λ es. take p xs ++ es in
    remove-append_right (take p xs) (drop j xs) p p size (omega arith) ∙ ap F none ∙ ap G (drop-drop 1 j xs)

-- ---- the whole, of lists under other names

pub record IsMerged (range : ℤ × ℤ) (old new : List (ℤ × ℤ)) : Type 0 where
  pub ranges : IsRanges new
  pub adds : IsAdded range old new

pub merge_alone : (range : ℤ × ℤ) (xs lent lent' new : List (ℤ × ℤ)) (from to : ℕ) → IsRanges xs → range.0 ≤ℤ range.1 → Places range xs from to → to ≤ from → new ≡ insert xs from range → IsMerged range xs new
merge_alone range xs lent lent' new from to is filled p not_less new_is =
    let m = merges_alone range xs from to is filled p not_less in
    let M : List (ℤ × ℤ) → Type 0 = λ es. IsMerged range xs es in
    subst M (sym new_is) (record { ranges = merged_ranges range range xs from from m is filled; adds = added range range xs from from m })

pub merge_hull : (range first merged at_from at_to : ℤ × ℤ) (xs new : List (ℤ × ℤ)) (from to : ℕ) → IsRanges xs → range.0 ≤ℤ range.1 → Places range xs from to → from < to → at_from ≡ get_or xs from at_from → at_to ≡ get_or xs (to - 1) at_to → IsHull range at_from first → IsHull first at_to merged → new ≡ take from xs ++ merged ∷ drop to xs → IsMerged range xs new
merge_hull range first merged at_from at_to xs new from to is filled p some from_is to_is hull_first hull_merged new_is =
    let d : ℤ × ℤ = (pos 0, pos 0) in
    let w = p.to_within in
    let a : at_from ≡ get_or xs from d = from_is ∙ get_or_default xs from at_from d (omega arith) in
    let b : at_to ≡ get_or xs (to - 1) d = to_is ∙ get_or_default xs (to - 1) at_to d (omega arith) in
    let H : ℤ × ℤ → Type 0 = λ r. IsHull range r first in
    let K : ℤ × ℤ → Type 0 = λ r. IsHull first r merged in
    let m = merges_hull range first merged xs from to is filled p some (subst H a hull_first) (subst K b hull_merged) in
    let M : List (ℤ × ℤ) → Type 0 = λ es. IsMerged range xs es in
    subst M (sym new_is) (record { ranges = merged_ranges range merged xs from to m is filled; adds = added range merged xs from to m })

pub places_as : (range : ℤ × ℤ) (xs lent lent' : List (ℤ × ℤ)) (from to : ℕ) → lent ≡ xs → lent' ≡ xs → from ≤ length lent → AllWithin (λ r. IsApart r range) lent 0 from → AllWithin (λ r. IsReached r range) lent from (length lent) → to ≤ length lent' → AllWithin (λ r. IsReached range r) lent' 0 to → AllWithin (λ r. IsApart range r) lent' to (length lent') → Places range xs from to
places_as range xs lent lent' from to is is' a b e f g h =
    let P : List (ℤ × ℤ) → Type 0 = λ es. (from ≤ length es) × AllWithin (λ r. IsApart r range) es 0 from × AllWithin (λ r. IsReached r range) es from (length es) in
    let Q : List (ℤ × ℤ) → Type 0 = λ es. (to ≤ length es) × AllWithin (λ r. IsReached range r) es 0 to × AllWithin (λ r. IsApart range r) es to (length es) in
    let p = subst P is (a, b, e) in
    let q = subst Q is' (f, g, h) in
    record { from_within = p.0; below = p.1; reach = p.2; to_within = q.0; touch = q.1; above = q.2 }
