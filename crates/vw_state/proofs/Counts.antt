-- Sums over the integers of a range: the measure by which sets of bytes and of slots are compared.
use Rattle.std.proofs.Common.{◌≡◌, ◌⊎◌, ℕ, zero, suc, ◌+◌, ◌≤◌, Bool, true, false, ◌&&◌, ◌||◌, List, [], ◌∷◌, length, refl, sym, ◌∙◌, ap, subst, arith, inl, inr}
use Rattle.std.specs.Prelude.{ℤ, pos, ◌+ℤ◌, ◌-ℤ◌, ◌≤ℤ◌, ◌<ℤ◌, int_le, is_some, Option, Some, None}
use Rattle.std.specs.Int.{from_bool}
use Rattle.std.proofs.lemmas.Bool.{cases_Bool, and_from, and_parts, or_left, or_right, false≢true}
use Rattle.std.proofs.lemmas.Int.{ints, by_lt_z}
use Rattle.vw_lattice.specs.Entries.{IsAscending, value_at}
use Rattle.vw_lattice.specs.EntryOrder.{value_at_here, value_at_there, same_or_not, ascending_tail, head_below, index_of, apart_from_lt}
use Rattle.vw_locals.specs.Ranges.{IsRanges, is_written, nat_of, bytes}
use Rattle.vw_locals.specs.RangeOrder.{le_from, le_to, ranges_tail, filled_head, tail_above, size_is}

-- the sum of the numbers of so many integers, from `low` on
pub total : (ℤ → ℕ) → ℤ → ℕ → ℕ
total f low zero = 0
total f low (suc n) = f (low +ℤ pos n) + total f low n

-- a sum of sums
pub total_under : (f g h : ℤ → ℕ) (low : ℤ) (n : ℕ) → ((x : ℤ) → f x ≤ g x + h x) → total f low n ≤ total g low n + total h low n
unfolding total
total_under f g h low zero le = omega arith
total_under f g h low (suc n) le = let here = le (low +ℤ pos n) in let rest = total_under f g h low n le in omega arith

pub total_over : (f g h : ℤ → ℕ) (low : ℤ) (n : ℕ) → ((x : ℤ) → g x + h x ≤ f x) → total g low n + total h low n ≤ total f low n
unfolding total
total_over f g h low zero le = omega arith
total_over f g h low (suc n) le = let here = le (low +ℤ pos n) in let rest = total_over f g h low n le in omega arith

pub total_none : (f : ℤ → ℕ) (low : ℤ) (n : ℕ) → ((x : ℤ) → f x ≡ 0) → total f low n ≡ 0
unfolding total
total_none f low zero none = refl
total_none f low (suc n) none = let here = none (low +ℤ pos n) in let rest = total_none f low n none in omega arith

-- by pairs: an integer's double, and the next
pub total_pairs : (f : ℤ → ℕ) (low : ℤ) (n : ℕ) → total f (low +ℤ low) (n + n) ≡ total (λ o. f (o +ℤ o) + f ((o +ℤ o) +ℤ pos 1)) low n
unfolding total
total_pairs f low zero = refl
total_pairs f low (suc n) =
    let twice : suc n + suc n ≡ suc (suc (n + n)) = omega arith in
    let odd : (low +ℤ low) +ℤ pos (suc (n + n)) ≡ ((low +ℤ pos n) +ℤ (low +ℤ pos n)) +ℤ pos 1 = omega (arith, ints) in
    let even : (low +ℤ low) +ℤ pos (n + n) ≡ (low +ℤ pos n) +ℤ (low +ℤ pos n) = omega (arith, ints) in
    let rest = total_pairs f low n in
    let first = ap f odd in
    let second = ap f even in
    let split : total f (low +ℤ low) (suc n + suc n) ≡ f ((low +ℤ low) +ℤ pos (suc (n + n))) + (f ((low +ℤ low) +ℤ pos (n + n)) + total f (low +ℤ low) (n + n)) = ap (λ (k : ℕ). total f (low +ℤ low) k) twice in
    omega arith

-- ---- the integers from one to another

-- 1 for these integers, and 0 for others
abbrev pub in_range : ℤ × ℤ → ℤ → ℕ
in_range range x = from_bool (int_le range.0 x && int_le x range.1)

pub one_in_range : (range : ℤ × ℤ) (x : ℤ) → range.0 ≤ℤ x → x ≤ℤ range.1 → in_range range x ≡ 1
one_in_range range x low high = rw (and_from (int_le range.0 x) (int_le x range.1) (le_to range.0 x low) (le_to x range.1 high)) refl

none_in_range : (range : ℤ × ℤ) (x : ℤ) → (range.0 ≤ℤ x → x ≤ℤ range.1 → ⊥) → in_range range x ≡ 0
none_in_range range x never = elim (cases_Bool (int_le range.0 x && int_le x range.1)) [
  | inl is ↦ let both = and_parts (int_le range.0 x) (int_le x range.1) is in absurd (never (le_from range.0 x both.0) (le_from x range.1 both.1))
  | inr not ↦ rw not refl
]

-- what the sum of a range of k integers up to an end is at most
record IsAtMost (range : ℤ × ℤ) (end : ℤ) (k t : ℕ) : Type 0 where
  most : t ≤ k
  before : end ≤ℤ range.0 → t ≡ 0
  behind : range.0 ≤ℤ end → pos t ≤ℤ (end -ℤ range.0)

range_at_most : (range : ℤ × ℤ) (k : ℕ) → pos k ≡ (range.1 -ℤ range.0) +ℤ pos 1 → (low : ℤ) (n : ℕ) → IsAtMost range (low +ℤ pos n) k (total (in_range range) low n)
unfolding total
range_at_most range k size low zero = record { most = omega arith; before = λ h. refl; behind = λ h. omega (arith, ints) }
range_at_most range k size low (suc n) =
    let rest = range_at_most range k size low n in
    let x : ℤ = low +ℤ pos n in
    let most = rest.most in
    let before = rest.before in
    let behind = rest.behind in
    by_lt_z x range.0
    (λ less.
    let none = none_in_range range x (λ l h. omega (arith, ints)) in
    record { most = omega arith; before = λ h. let zero_before = before (omega (arith, ints)) in omega arith; behind = λ h. let zero_before = before (omega (arith, ints)) in omega (arith, ints) })
    (λ from.
    let up = behind from in
    by_lt_z range.1 x
    (λ over.
    let none = none_in_range range x (λ l h. omega (arith, ints)) in
    record { most = omega arith; before = λ h. absurd (omega (arith, ints)); behind = λ h. omega (arith, ints) })
    (λ to.
    let one = one_in_range range x from to in
    record { most = omega (arith, ints); before = λ h. absurd (omega (arith, ints)); behind = λ h. omega (arith, ints) }))

-- and what it is at least
record IsAtLeast (range : ℤ × ℤ) (end : ℤ) (k t : ℕ) : Type 0 where
  so_far : range.0 ≤ℤ end → end ≤ℤ (range.1 +ℤ pos 1) → (end -ℤ range.0) ≤ℤ pos t
  all : (range.1 +ℤ pos 1) ≤ℤ end → k ≤ t

range_at_least : (range : ℤ × ℤ) (k : ℕ) → pos k ≡ (range.1 -ℤ range.0) +ℤ pos 1 → range.0 ≤ℤ range.1 → (low : ℤ) → low ≤ℤ range.0 → (n : ℕ) → IsAtLeast range (low +ℤ pos n) k (total (in_range range) low n)
unfolding total
range_at_least range k size filled low first zero = record { so_far = λ a b. omega (arith, ints); all = λ a. absurd (omega (arith, ints)) }
range_at_least range k size filled low first (suc n) =
    let rest = range_at_least range k size filled low first n in
    let x : ℤ = low +ℤ pos n in
    let so_far = rest.so_far in
    let all = rest.all in
    by_lt_z x range.0
    (λ less. record { so_far = λ a b. omega (arith, ints); all = λ a. absurd (omega (arith, ints)) })
    (λ from.
    by_lt_z range.1 x
    (λ over.
    let none = none_in_range range x (λ l h. omega (arith, ints)) in
    let whole = all (omega (arith, ints)) in
    record { so_far = λ a b. absurd (omega (arith, ints)); all = λ a. omega arith })
    (λ to.
    let one = one_in_range range x from to in
    let far = so_far from (omega (arith, ints)) in
    record { so_far = λ a b. omega (arith, ints); all = λ a. omega (arith, ints) }))

-- ---- sets of bytes

-- 1 for the bytes of a set
abbrev pub byte_at : List (ℤ × ℤ) → ℤ → ℕ
byte_at ranges x = from_bool (is_written ranges x)

either_bit : (a b : Bool) → from_bool (a || b) ≤ from_bool a + from_bool b
either_bit true b = omega arith
either_bit false b = omega arith

apart_bits : (a b : Bool) → (a ≡ true → b ≡ true → ⊥) → from_bool a + from_bool b ≤ from_bool (a || b)
apart_bits true true never = absurd (never refl refl)
apart_bits true false never = omega arith
apart_bits false b never = omega arith

-- the bytes of a set are no fewer than those of it in any range
pub bytes_over : (ranges : List (ℤ × ℤ)) → IsRanges ranges → (low : ℤ) (n : ℕ) → total (byte_at ranges) low n ≤ bytes ranges
bytes_over [] is low n = let none = total_none (byte_at []) low n (λ x. refl) in omega arith
bytes_over (range ∷ rest) is low n =
    let split = total_under (byte_at (range ∷ rest)) (in_range range) (byte_at rest) low n (λ x. either_bit (int_le range.0 x && int_le x range.1) (is_written rest x)) in
    let first = (range_at_most range (nat_of ((range.1 -ℤ range.0) +ℤ pos 1)) (size_is range (filled_head range rest is)) low n).most in
    let others = bytes_over rest (ranges_tail range rest is) low n in
    omega arith

-- the bytes of a set are no more than those of it in a range that has them all
pub bytes_under : (ranges : List (ℤ × ℤ)) → IsRanges ranges → (low : ℤ) (n : ℕ) → ((x : ℤ) → is_written ranges x ≡ true → (low ≤ℤ x) × (x <ℤ (low +ℤ pos n))) → bytes ranges ≤ total (byte_at ranges) low n
bytes_under [] is low n inside = omega arith
bytes_under (range ∷ rest) is low n inside =
    let filled = filled_head range rest is in
    let from = inside range.0 (or_left (int_le range.0 range.0 && int_le range.0 range.1) (is_written rest range.0) (and_from (int_le range.0 range.0) (int_le range.0 range.1) (le_to range.0 range.0 (omega (arith, ints))) (le_to range.0 range.1 filled))) in
    let to = inside range.1 (or_left (int_le range.0 range.1 && int_le range.1 range.1) (is_written rest range.1) (and_from (int_le range.0 range.1) (int_le range.1 range.1) (le_to range.0 range.1 filled) (le_to range.1 range.1 (omega (arith, ints))))) in
    let low_in = from.0 in
    let high_in = to.1 in
    let split = total_over (byte_at (range ∷ rest)) (in_range range) (byte_at rest) low n
    (λ x. apart_bits (int_le range.0 x && int_le x range.1) (is_written rest x)
    (λ here there.
    let both = and_parts (int_le range.0 x) (int_le x range.1) here in
    let high = le_from x range.1 both.1 in
    let above = tail_above range rest x is there in
    absurd (omega (arith, ints)))) in
    let first = (range_at_least range (nat_of ((range.1 -ℤ range.0) +ℤ pos 1)) (size_is range filled) filled low low_in n).all (omega (arith, ints)) in
    let others = bytes_under rest (ranges_tail range rest is) low n (λ x there. inside x (or_right (int_le range.0 x && int_le x range.1) (is_written rest x) there)) in
    omega arith

-- a set whose other bytes are some sixteen in a row has at most sixteen more
pub bytes_grow : (old new : List (ℤ × ℤ)) → IsRanges old → IsRanges new → (low : ℤ) (n : ℕ) → ((x : ℤ) → is_written new x ≡ true → (low ≤ℤ x) × (x <ℤ (low +ℤ pos n))) → (at : ℤ)
    → ((x : ℤ) → is_written new x ≡ true → (is_written old x ≡ true) ⊎ ((at ≤ℤ x) × (x ≤ℤ (at +ℤ pos 15)))) → bytes new ≤ bytes old + 16
bytes_grow old new is_old is_new low n inside at grows =
    let under = bytes_under new is_new low n inside in
    let over = bytes_over old is_old low n in
    let range : ℤ × ℤ = (at, at +ℤ pos 15) in
    let most = (range_at_most range 16 (omega (arith, ints)) low n).most in
    let split = total_under (byte_at new) (byte_at old) (in_range range) low n (λ x. here x (cases_Bool (is_written new x))) in
    omega arith
  where
    here : (x : ℤ) → (is_written new x ≡ true) ⊎ (is_written new x ≡ false) → byte_at new x ≤ byte_at old x + in_range (at, at +ℤ pos 15) x
    here x (inr not) = rw not (omega arith)
    here x (inl is) = elim (grows x is) [
      | inl old_is ↦ rw (is, old_is) (omega arith)
      | inr bounds ↦ let one = one_in_range (at, at +ℤ pos 15) x bounds.0 bounds.1 in rw (is) (omega arith)
    ]

-- ---- entries

-- one integer alone
abbrev here_of : ℤ → ℤ × ℤ
here_of key = (key, key)

module _ {V : Type 0} where
  abbrev pub has : List (ℤ × V) → ℤ → Bool
  has entries key = is_some (value_at entries key)

  -- 1 for the keys of a map
  abbrev pub key_in : List (ℤ × V) → ℤ → ℕ
  key_in entries key = from_bool (has entries key)

  key_under : (entry : ℤ × V) (rest : List (ℤ × V)) (x : ℤ) → key_in (entry ∷ rest) x ≤ in_range (here_of entry.0) x + key_in rest x
  key_under entry rest x = elim (same_or_not entry.0 x) [
    | inl same ↦ let one = one_in_range (here_of entry.0) x (omega (arith, ints)) (omega (arith, ints)) in rw (value_at_here entry rest x same) (omega arith)
    | inr other ↦ rw (value_at_there entry rest x other) (omega arith)
  ]

  -- no entry has a key that is not above the first
  not_again : (entry : ℤ × V) (rest : List (ℤ × V)) → IsAscending (entry ∷ rest) → has rest entry.0 ≡ false
  not_again entry rest is = by_value (value_at rest entry.0) refl
    where
      by_value : (v : Option V) → value_at rest entry.0 ≡ v → is_some v ≡ false
      by_value None e = refl
      by_value (Some v) e =
          let i = index_of rest entry.0 v e in
          let above = head_below entry rest is i.0 entry i.1 in
          absurd (apart_from_lt entry.0 _ above (sym (i.2 entry).0))

  key_over : (entry : ℤ × V) (rest : List (ℤ × V)) → IsAscending (entry ∷ rest) → (x : ℤ) → in_range (here_of entry.0) x + key_in rest x ≤ key_in (entry ∷ rest) x
  key_over entry rest is x = elim (same_or_not entry.0 x) [
    | inl same ↦
        let most = one_at_most (int_le entry.0 x && int_le x entry.0) in
        let no : has rest x ≡ false = subst (λ (k : ℤ). has rest k ≡ false) same (not_again entry rest is) in
        rw (value_at_here entry rest x same, no) (omega arith)
    | inr other ↦ let none = none_in_range (here_of entry.0) x (λ a b. other (omega (arith, ints))) in rw (value_at_there entry rest x other) (omega arith)
  ]
    where
      one_at_most : (b : Bool) → from_bool b ≤ 1
      one_at_most true = omega arith
      one_at_most false = omega arith

  pub entries_over : (entries : List (ℤ × V)) (low : ℤ) (n : ℕ) → total (key_in entries) low n ≤ length entries
  entries_over [] low n = let none = total_none (key_in []) low n (λ x. refl) in omega arith
  entries_over (entry ∷ rest) low n =
      let split = total_under (key_in (entry ∷ rest)) (in_range (here_of entry.0)) (key_in rest) low n (key_under entry rest) in
      let first = (range_at_most (here_of entry.0) 1 (omega (arith, ints)) low n).most in
      let others = entries_over rest low n in
      omega arith

  pub entries_under : (entries : List (ℤ × V)) → IsAscending entries → (low : ℤ) (n : ℕ) → ((key : ℤ) (v : V) → value_at entries key ≡ Some v → (low ≤ℤ key) × (key <ℤ (low +ℤ pos n))) → length entries ≤ total (key_in entries) low n
  entries_under [] is low n inside = omega arith
  entries_under (entry ∷ rest) is low n inside =
      let here = inside entry.0 entry.1 (value_at_here entry rest entry.0 refl) in
      let from = here.0 in
      let to = here.1 in
      let split = total_over (key_in (entry ∷ rest)) (in_range (here_of entry.0)) (key_in rest) low n (key_over entry rest is) in
      let first = (range_at_least (here_of entry.0) 1 (omega (arith, ints)) (omega (arith, ints)) low from n).all (omega (arith, ints)) in
      let others = entries_under rest (ascending_tail entry rest is) low n (λ key v found. inside key v (found_behind key v found)) in
      omega arith
    where
      found_behind : (key : ℤ) (v : V) → value_at rest key ≡ Some v → value_at (entry ∷ rest) key ≡ Some v
      found_behind key v found = elim (same_or_not entry.0 key) [
        | inl same ↦
            let no : has rest key ≡ false = subst (λ (k : ℤ). has rest k ≡ false) same (not_again entry rest is) in
            absurd (false≢true (sym no ∙ ap is_some found))
        | inr other ↦ value_at_there entry rest key other ∙ found
      ]

  -- Entries stand at pairs of keys, at most one at each. Where those of a new list stand at the pairs of the old one and
  -- at one more, the new list has at most one entry more.
  pub entries_grow : (old new : List (ℤ × V)) → IsAscending new → (low : ℤ) (n : ℕ)
      → ((key : ℤ) (v : V) → value_at new key ≡ Some v → ((low +ℤ low) ≤ℤ key) × (key <ℤ ((low +ℤ low) +ℤ pos (n + n)))) → (at : ℤ)
      → ((o : ℤ) → key_in new (o +ℤ o) + key_in new ((o +ℤ o) +ℤ pos 1) ≤ (key_in old (o +ℤ o) + key_in old ((o +ℤ o) +ℤ pos 1)) + in_range (at, at) o)
      → length new ≤ length old + 1
  entries_grow old new is low n inside at grows =
      let under = entries_under new is (low +ℤ low) (n + n) inside in
      let over = entries_over old (low +ℤ low) (n + n) in
      let pairs : List (ℤ × V) → ℤ → ℕ = λ entries o. key_in entries (o +ℤ o) + key_in entries ((o +ℤ o) +ℤ pos 1) in
      let new_pairs = total_pairs (key_in new) low n in
      let old_pairs = total_pairs (key_in old) low n in
      let split = total_under (pairs new) (pairs old) (in_range (at, at)) low n grows in
      let most = (range_at_most (at, at) 1 (omega (arith, ints)) low n).most in
      omega arith
