-- Where an offset stands among ranges.
use Rattle.std.proofs.Common.{◌≡◌, ℕ, zero, suc, ◌+◌, ◌<◌, true, List, [], ◌∷◌, length, get_or, sym, subst, arith, inl, inr}
use Rattle.std.specs.Prelude.{ℤ, pos, ◌<ℤ◌, ◌≤ℤ◌, ◌+ℤ◌}
use Rattle.std.specs.List.{AllWithin}
use Rattle.std.proofs.lemmas.Bool.{cases_eq, cases_lt}
use Rattle.std.proofs.lemmas.Int.{ints, by_lt_z}
use Rattle.std.proofs.lemmas.List.{get_or_default}
use Rattle.vw_locals.specs.Ranges.{is_written, IsRanges, IsContained, written_below}
use Rattle.vw_locals.specs.RangeOrder.{written_here, written_there, written_cases}

pub ends_up_to : (ranges : List (ℤ × ℤ)) (at : ℕ) (d : ℤ × ℤ) (x : ℤ) → IsRanges ranges → at < length ranges → (get_or ranges at d).1 <ℤ x → AllWithin (λ r. r.1 <ℤ x) ranges 0 (at + 1)
ends_up_to ranges at d x is within less = λ k e low high.
    let at_e : (get_or ranges at e).1 <ℤ x = subst (λ (r : ℤ × ℤ). r.1 <ℤ x) (get_or_default ranges at d e within) less in
    elim (cases_eq k at) [
      | inl same ↦ subst (λ (n : ℕ). (get_or ranges n e).1 <ℤ x) (sym same) at_e
      | inr other ↦
          let apart = is.apart k at e (omega arith) within in
          let filled = is.filled at e within in
          omega (arith, ints)
    ]

pub ends_from : (ranges : List (ℤ × ℤ)) (at : ℕ) (d : ℤ × ℤ) (x : ℤ) → IsRanges ranges → at < length ranges → x ≤ℤ (get_or ranges at d).1 → AllWithin (λ r. x ≤ℤ r.1) ranges at (length ranges)
ends_from ranges at d x is within at_most = λ k e low high.
    let at_e : x ≤ℤ (get_or ranges at e).1 = subst (λ (r : ℤ × ℤ). x ≤ℤ r.1) (get_or_default ranges at d e within) at_most in
    elim (cases_eq k at) [
      | inl same ↦ subst (λ (n : ℕ). x ≤ℤ (get_or ranges n e).1) (sym same) at_e
      | inr other ↦
          let apart = is.apart at k e (omega arith) high in
          let filled = is.filled k e high in
          omega (arith, ints)
    ]

pub begins_up_to : (ranges : List (ℤ × ℤ)) (at : ℕ) (d : ℤ × ℤ) (x : ℤ) → IsRanges ranges → at < length ranges → (get_or ranges at d).0 ≤ℤ x → AllWithin (λ r. r.0 ≤ℤ x) ranges 0 (at + 1)
begins_up_to ranges at d x is within less = λ k e low high.
    let at_e : (get_or ranges at e).0 ≤ℤ x = subst (λ (r : ℤ × ℤ). r.0 ≤ℤ x) (get_or_default ranges at d e within) less in
    elim (cases_eq k at) [
      | inl same ↦ subst (λ (n : ℕ). (get_or ranges n e).0 ≤ℤ x) (sym same) at_e
      | inr other ↦
          let apart = is.apart k at e (omega arith) within in
          let filled = is.filled k e (omega arith) in
          omega (arith, ints)
    ]

pub begins_from : (ranges : List (ℤ × ℤ)) (at : ℕ) (d : ℤ × ℤ) (x : ℤ) → IsRanges ranges → at < length ranges → x <ℤ (get_or ranges at d).0 → AllWithin (λ r. x <ℤ r.0) ranges at (length ranges)
begins_from ranges at d x is within at_most = λ k e low high.
    let at_e : x <ℤ (get_or ranges at e).0 = subst (λ (r : ℤ × ℤ). x <ℤ r.0) (get_or_default ranges at d e within) at_most in
    elim (cases_eq k at) [
      | inl same ↦ subst (λ (n : ℕ). x <ℤ (get_or ranges n e).0) (sym same) at_e
      | inr other ↦
          let apart = is.apart at k e (omega arith) high in
          let filled = is.filled at e within in
          omega (arith, ints)
    ]

-- ---- membership by index

pub written_at : (ranges : List (ℤ × ℤ)) (k : ℕ) (d : ℤ × ℤ) (x : ℤ) → k < length ranges → (get_or ranges k d).0 ≤ℤ x → x ≤ℤ (get_or ranges k d).1 → is_written ranges x ≡ true
written_at [] k d x within low high = absurd (omega arith)
written_at (r ∷ rest) zero d x within low high = written_here r rest x (record { low = low; high = high })
written_at (r ∷ rest) (suc k) d x within low high = written_there r rest x (written_at rest k d x (omega arith) low high)

pub record IsAt (ranges : List (ℤ × ℤ)) (x : ℤ) : Type 0 where
  pub index : ℕ
  pub within : index < length ranges
  pub low : (get_or ranges index (pos 0, pos 0)).0 ≤ℤ x
  pub high : x ≤ℤ (get_or ranges index (pos 0, pos 0)).1

pub index_of : (ranges : List (ℤ × ℤ)) (x : ℤ) → is_written ranges x ≡ true → IsAt ranges x
index_of [] x is = absurd (cc)
index_of (r ∷ rest) x is = elim (written_cases r rest x is) [
  | inl here ↦ record { index = 0; within = omega arith; low = here.low; high = here.high }
  | inr there ↦
      let i = index_of rest x there in
      record { index = suc i.index; within = let w = i.within in omega arith; low = i.low; high = i.high }
]

-- a range that ends where another begins or behind it is in the set only in one range
pub contained_yes : (ranges : List (ℤ × ℤ)) (at : ℕ) (range : ℤ × ℤ) → at < length ranges → (get_or ranges at (pos 0, pos 0)).0 ≤ℤ range.0 → range.1 ≤ℤ (get_or ranges at (pos 0, pos 0)).1 → IsContained ranges range
contained_yes ranges at range within low high = λ x from to. written_at ranges at (pos 0, pos 0) x within (omega (arith, ints)) (omega (arith, ints))

pub contained_at : (ranges : List (ℤ × ℤ)) (at : ℕ) (range : ℤ × ℤ) → IsRanges ranges → range.0 ≤ℤ range.1 → AllWithin (λ r. r.1 <ℤ range.0) ranges 0 at → AllWithin (λ r. range.0 ≤ℤ r.1) ranges at (length ranges) → IsContained ranges range → (at < length ranges) × ((get_or ranges at (pos 0, pos 0)).0 ≤ℤ range.0) × (range.1 ≤ℤ (get_or ranges at (pos 0, pos 0)).1)
contained_at ranges at range is filled below above contained =
    let d : ℤ × ℤ = (pos 0, pos 0) in
    let i = index_of ranges range.0 (contained range.0 (omega (arith, ints)) filled) in
    let low = i.low in
    let high = i.high in
    let inside = i.within in
    let same : i.index ≡ at = elim (cases_lt i.index at) [
      | inl before ↦ let ends = below i.index d (omega arith) before in absurd (omega (arith, ints))
      | inr behind ↦ elim (cases_eq i.index at) [
        | inl same ↦ same
        | inr other ↦
            let ends = above at d (omega arith) (omega arith) in
            let apart = is.apart at i.index d (omega arith) inside in
            absurd (omega (arith, ints))
      ]
    ] in
    let within : at < length ranges = omega arith in
    let L : ℕ → Type 0 = λ n. (get_or ranges n d).0 ≤ℤ range.0 in
    let begins : (get_or ranges at d).0 ≤ℤ range.0 = subst L same low in
    let ends : range.0 ≤ℤ (get_or ranges at d).1 = above at d (omega arith) within in
    let e : ℤ = (get_or ranges at d).1 in (
      within,
      begins,
      by_lt_z e range.1
          (λ less.
          let next : ℤ = e +ℤ pos 1 in
          let j = index_of ranges next (contained next (omega (arith, ints)) (omega (arith, ints))) in
          let j_low = j.low in
          let j_high = j.high in
          let j_within = j.within in
          elim (cases_lt j.index at) [
            | inl before ↦ let gone = below j.index d (omega arith) before in absurd (omega (arith, ints))
            | inr behind ↦ elim (cases_eq j.index at) [
              | inl here ↦
                  let H : ℕ → Type 0 = λ n. next ≤ℤ (get_or ranges n d).1 in
                  let past : next ≤ℤ e = subst H here j_high in
                  absurd (omega (arith, ints))
              | inr other ↦
                  let apart = is.apart at j.index d (omega arith) j_within in
                  absurd (omega (arith, ints))
            ]
          ])
          (λ not_less. not_less),
    )

-- ---- the order, range by range

pub below_by_ranges : (low high : List (ℤ × ℤ)) → ((k : ℕ) → k < length high → IsContained low (get_or high k (pos 0, pos 0))) → written_below low high
below_by_ranges low high each = λ x is.
    let i = index_of high x is in
    each i.index i.within x i.low i.high

pub below_at : (low high : List (ℤ × ℤ)) (k : ℕ) → k < length high → written_below low high → IsContained low (get_or high k (pos 0, pos 0))
below_at low high k within below = λ x from to. below x (written_at high k (pos 0, pos 0) x within from to)

-- the same, of a first offset that was read back from its bits
pub contained_read : (ranges : List (ℤ × ℤ)) (at : ℕ) (range : ℤ × ℤ) (x : ℤ) → x ≡ range.0 → IsRanges ranges → range.0 ≤ℤ range.1 → AllWithin (λ r. r.1 <ℤ x) ranges 0 at → AllWithin (λ r. x ≤ℤ r.1) ranges at (length ranges) → IsContained ranges range → (at < length ranges) × ((get_or ranges at (pos 0, pos 0)).0 ≤ℤ range.0) × (range.1 ≤ℤ (get_or ranges at (pos 0, pos 0)).1)
contained_read ranges at range x same is filled below above contained =
    contained_at ranges at range is filled
    (λ k d low high. subst (λ (y : ℤ). (get_or ranges k d).1 <ℤ y) same (below k d low high))
    (λ k d low high. subst (λ (y : ℤ). y ≤ℤ (get_or ranges k d).1) same (above k d low high))
    contained
