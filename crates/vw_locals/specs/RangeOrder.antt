-- The laws of the order of written offsets.
use Rattle.std.specs.Prelude.{◌≡◌, ◌≤◌, ◌<ℤ◌, ◌≤ℤ◌, ◌+ℤ◌, ◌-ℤ◌, ℤ, pos, negsuc, zero, suc, int_le, true, false, ◌&&◌, List, [], ◌∷◌, refl, ◌⊎◌}
use Rattle.std.specs.List.{All, AllPairs}
use Rattle.std.proofs.Common.{◌∙◌, ap, arith, inl, inr}
use Rattle.std.proofs.lemmas.Bool.{or_cases, or_left, or_right, and_parts, and_from}
use Rattle.std.proofs.lemmas.Int.{ints, by_lt_z}
use Rattle.vw_locals.specs.Ranges.{is_written, IsRanges, written_below, nat_of, bytes}

-- ---- membership

pub le_from : (a b : ℤ) → int_le a b ≡ true → a ≤ℤ b
le_from a b is = grind (arith, ints)

pub le_to : (a b : ℤ) → a ≤ℤ b → int_le a b ≡ true
le_to a b is = grind (arith, ints)

pub record IsInRange (range : ℤ × ℤ) (x : ℤ) : Type 0 where
  pub low : range.0 ≤ℤ x
  pub high : x ≤ℤ range.1

pub written_cases : (range : ℤ × ℤ) (rest : List (ℤ × ℤ)) (x : ℤ) → is_written (range ∷ rest) x ≡ true → IsInRange range x ⊎ (is_written rest x ≡ true)
written_cases range rest x is = elim (or_cases (int_le range.0 x && int_le x range.1) (is_written rest x) is) [
  | inl here ↦ let both = and_parts (int_le range.0 x) (int_le x range.1) here in inl (record { low = le_from range.0 x both.0; high = le_from x range.1 both.1 })
  | inr there ↦ inr there
]

pub written_here : (range : ℤ × ℤ) (rest : List (ℤ × ℤ)) (x : ℤ) → IsInRange range x → is_written (range ∷ rest) x ≡ true
written_here range rest x is = or_left (int_le range.0 x && int_le x range.1) (is_written rest x) (and_from (int_le range.0 x) (int_le x range.1) (le_to range.0 x is.low) (le_to x range.1 is.high))

pub written_there : (range : ℤ × ℤ) (rest : List (ℤ × ℤ)) (x : ℤ) → is_written rest x ≡ true → is_written (range ∷ rest) x ≡ true
written_there range rest x is = or_right (int_le range.0 x && int_le x range.1) (is_written rest x) is

-- ---- ranges

pub ranges_tail : (range : ℤ × ℤ) (rest : List (ℤ × ℤ)) → IsRanges (range ∷ rest) → IsRanges rest
ranges_tail range rest ranges = record {
  filled = λ k d within. ranges.filled (suc k) d (omega arith);
  apart = λ i j d before within. ranges.apart (suc i) (suc j) d (omega arith) (omega arith);
}

pub filled_head : (range : ℤ × ℤ) (rest : List (ℤ × ℤ)) → IsRanges (range ∷ rest) → range.0 ≤ℤ range.1
filled_head range rest ranges = ranges.filled 0 range (omega arith)

pub head_apart : (range : ℤ × ℤ) (rest : List (ℤ × ℤ)) → IsRanges (range ∷ rest) → All (λ later. (range.1 +ℤ pos 1) <ℤ later.0) rest
head_apart range rest ranges = λ k d within. ranges.apart 0 (suc k) d (omega arith) (omega arith)

-- what is behind the first range is apart from it
pub above_head : (end : ℤ) (rest : List (ℤ × ℤ)) (x : ℤ) → All (λ later. (end +ℤ pos 1) <ℤ later.0) rest → is_written rest x ≡ true → (end +ℤ pos 1) <ℤ x
above_head end [] x apart is = absurd (cc)
above_head end (range ∷ rest) x apart is = elim (written_cases range rest x is) [
  | inl here ↦
      let first = apart 0 range (omega arith) in
      let low = here.low in
      omega (arith, ints)
  | inr there ↦ above_head end rest x (λ k d within. apart (suc k) d (omega arith)) there
]

pub tail_above : (range : ℤ × ℤ) (rest : List (ℤ × ℤ)) (x : ℤ) → IsRanges (range ∷ rest) → is_written rest x ≡ true → (range.1 +ℤ pos 1) <ℤ x
tail_above range rest x ranges is = above_head range.1 rest x (head_apart range rest ranges) is

pub nat_of_is : (z : ℤ) → pos 0 ≤ℤ z → pos (nat_of z) ≡ z
nat_of_is (pos n) low = refl
nat_of_is (negsuc n) low = absurd (omega (arith, ints))

pub size_is : (range : ℤ × ℤ) → range.0 ≤ℤ range.1 → pos (nat_of ((range.1 -ℤ range.0) +ℤ pos 1)) ≡ (range.1 -ℤ range.0) +ℤ pos 1
size_is range filled = nat_of_is ((range.1 -ℤ range.0) +ℤ pos 1) (omega (arith, ints))

-- a range in front
pub ranges_cons : (range : ℤ × ℤ) (rest : List (ℤ × ℤ)) → range.0 ≤ℤ range.1 → All (λ later. (range.1 +ℤ pos 1) <ℤ later.0) rest → IsRanges rest → IsRanges (range ∷ rest)
ranges_cons range rest filled apart ranges = record {
  filled = go_filled;
  apart = go_apart;
}
  where
    go_filled : All (λ r. r.0 ≤ℤ r.1) (range ∷ rest)
    go_filled zero d within = filled
    go_filled (suc k) d within = ranges.filled k d (omega arith)

    go_apart : AllPairs (λ earlier later. (earlier.1 +ℤ pos 1) <ℤ later.0) (range ∷ rest)
    go_apart zero zero d before within = absurd (omega arith)
    go_apart zero (suc j) d before within = apart j d (omega arith)
    go_apart (suc i) zero d before within = absurd (omega arith)
    go_apart (suc i) (suc j) d before within = ranges.apart i j d (omega arith) (omega arith)

-- ---- ranks

pub written_transitive : (x y z : List (ℤ × ℤ)) → written_below x y → written_below y z → written_below x z
written_transitive x y z first second = λ o is. first o (second o is)

-- fewer offsets are fewer bytes, and as many are the same
abbrev pub Ranked : List (ℤ × ℤ) → List (ℤ × ℤ) → Type 0
Ranked low high = (bytes high ≤ bytes low) × (bytes low ≡ bytes high → low ≡ high)

size_positive : (range : ℤ × ℤ) → range.0 ≤ℤ range.1 → 1 ≤ nat_of ((range.1 -ℤ range.0) +ℤ pos 1)
size_positive range filled = let is = size_is range filled in omega (arith, ints)

range_same : (l h : ℤ × ℤ) → l.0 ≡ h.0 → l.1 ≡ h.1 → l ≡ h
range_same l h first last =
    let with_first : ℤ → ℤ × ℤ = λ k. (k, l.1) in
    let with_last : ℤ → ℤ × ℤ = λ v. (h.0, v) in
    ap with_first first ∙ ap with_last last

-- the first range of the lower list ends before the first of the higher begins
skips : (l h : ℤ × ℤ) (ls hs : List (ℤ × ℤ)) → IsRanges (h ∷ hs) → l.1 <ℤ h.0 → written_below (l ∷ ls) (h ∷ hs) → written_below ls (h ∷ hs)
skips l h ls hs ranges less below = λ x is.
    let above : h.0 ≤ℤ x = elim (written_cases h hs x is) [
      | inl here ↦ here.low
      | inr there ↦
          let behind = tail_above h hs x ranges there in
          let filled = filled_head h hs ranges in
          omega (arith, ints)
    ] in
    elim (written_cases l ls x (below x is)) [
      | inl here ↦ let high = here.high in absurd (omega (arith, ints))
      | inr there ↦ there
    ]

record Covering (l h : ℤ × ℤ) : Type 0 where
  first : l.0 ≤ℤ h.0
  last : h.1 ≤ℤ l.1

-- else it covers that
covering : (l h : ℤ × ℤ) (ls hs : List (ℤ × ℤ)) → IsRanges (l ∷ ls) → IsRanges (h ∷ hs) → h.0 ≤ℤ l.1 → written_below (l ∷ ls) (h ∷ hs) → Covering l h
covering l h ls hs ranges_l ranges_h meets below =
    let filled = filled_head h hs ranges_h in
    record {
      first = elim (written_cases l ls h.0 (below h.0 (written_here h hs h.0 (record { low = omega (arith, ints); high = filled })))) [
        | inl here ↦ here.low
        | inr there ↦ let behind = tail_above l ls h.0 ranges_l there in absurd (omega (arith, ints))
      ];
      last = by_lt_z l.1 h.1
          (λ less.
          let next : ℤ = l.1 +ℤ pos 1 in
          elim (written_cases l ls next (below next (written_here h hs next (record { low = omega (arith, ints); high = omega (arith, ints) })))) [
            | inl here ↦ let high = here.high in absurd (omega (arith, ints))
            | inr there ↦ let behind = tail_above l ls next ranges_l there in absurd (omega (arith, ints))
          ])
          (λ not_less. not_less);
    }

-- the rest of the higher list is in what the lower one has behind h
rest_in_tail : (l h : ℤ × ℤ) (ls hs : List (ℤ × ℤ)) → IsRanges (h ∷ hs) → l.1 <ℤ (h.1 +ℤ pos 2) → written_below (l ∷ ls) (h ∷ hs) → written_below ls hs
rest_in_tail l h ls hs ranges_h ends below = λ x is.
    let behind = tail_above h hs x ranges_h is in
    elim (written_cases l ls x (below x (written_there h hs x is))) [
      | inl here ↦ let high = here.high in absurd (omega (arith, ints))
      | inr there ↦ there
    ]

rest_in_cut : (l h : ℤ × ℤ) (ls hs : List (ℤ × ℤ)) → IsRanges (h ∷ hs) → written_below (l ∷ ls) (h ∷ hs) → written_below ((h.1 +ℤ pos 2, l.1) ∷ ls) hs
rest_in_cut l h ls hs ranges_h below = λ x is.
    let behind = tail_above h hs x ranges_h is in
    let cut : ℤ × ℤ = (h.1 +ℤ pos 2, l.1) in
    elim (written_cases l ls x (below x (written_there h hs x is))) [
      | inl here ↦ written_here cut ls x (record { low = omega (arith, ints); high = here.high })
      | inr there ↦ written_there cut ls x there
    ]

ranked_head : (h : ℤ × ℤ) (hs : List (ℤ × ℤ)) → IsRanges (h ∷ hs) → ((low : List (ℤ × ℤ)) → IsRanges low → written_below low hs → Ranked low hs) → (low : List (ℤ × ℤ)) → IsRanges low → written_below low (h ∷ hs) → Ranked low (h ∷ hs)
ranked_head h hs ranges_h later [] ranges below =
    let none : false ≡ true = below h.0 (written_here h hs h.0 (record { low = omega (arith, ints); high = filled_head h hs ranges_h })) in
    absurd (cc)
ranked_head h hs ranges_h later (l ∷ ls) ranges below =
    let filled_l = filled_head l ls ranges in
    let filled_h = filled_head h hs ranges_h in
    let size_l = size_is l filled_l in
    let size_h = size_is h filled_h in
    by_lt_z l.1 h.0
    (λ less.
    let rest = ranked_head h hs ranges_h later ls (ranges_tail l ls ranges) (skips l h ls hs ranges_h less below) in
    let fewer = rest.0 in
    (omega (arith, ints), λ same. absurd (omega (arith, ints))))
    (λ meets.
    let cover = covering l h ls hs ranges ranges_h meets below in
    let first = cover.first in
    let last = cover.last in
    by_lt_z l.1 (h.1 +ℤ pos 2)
    (λ ends.
    let rest = later ls (ranges_tail l ls ranges) (rest_in_tail l h ls hs ranges_h ends below) in
    let fewer = rest.0 in (
      omega (arith, ints),
      λ same.
          let tails : bytes ls ≡ bytes hs = omega (arith, ints) in
          let firsts : l.0 ≡ h.0 = omega (arith, ints) in
          let lasts : l.1 ≡ h.1 = omega (arith, ints) in
          let heads : l ≡ h = range_same l h firsts lasts in
          let rests : ls ≡ hs = rest.1 tails in
          cc,
    ))
    (λ goes_on.
    let cut : ℤ × ℤ = (h.1 +ℤ pos 2, l.1) in
    let size_cut = size_is cut goes_on in
    let rest = later (cut ∷ ls) (ranges_cons cut ls goes_on (head_apart l ls ranges) (ranges_tail l ls ranges)) (rest_in_cut l h ls hs ranges_h below) in
    let fewer = rest.0 in
    (omega (arith, ints), λ same. absurd (omega (arith, ints)))))

pub ranked : (high low : List (ℤ × ℤ)) → IsRanges low → IsRanges high → written_below low high → Ranked low high
ranked [] [] ranges_l ranges_h below = (omega arith, λ same. refl)
ranked [] (l ∷ ls) ranges_l ranges_h below =
    let some = size_positive l (filled_head l ls ranges_l) in
    (omega arith, λ same. absurd (omega arith))
ranked (h ∷ hs) low ranges_l ranges_h below = ranked_head h hs ranges_h (λ l ranges b. ranked hs l ranges (ranges_tail h hs ranges_h) b) low ranges_l below

pub written_antisymmetric : (x y : List (ℤ × ℤ)) → IsRanges x → IsRanges y → written_below x y → written_below y x → x ≡ y
written_antisymmetric x y rx ry up down =
    let first = ranked y x rx ry up in
    let second = ranked x y ry rx down in
    let a = first.0 in
    let b = second.0 in
    first.1 (omega arith)
