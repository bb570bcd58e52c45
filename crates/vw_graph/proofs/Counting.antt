-- How many classes a state can have, and how many slots a join of states leaves. Keys of slots are counted as numbers, as the
-- entries of divisions are.
use Rattle.std.proofs.Common.{◌≡◌, ◌≢◌, ℕ, zero, suc, ◌+◌, ◌^◌, ◌<◌, ◌≤◌, ℤ, pos, ◌+ℤ◌, ◌-ℤ◌, ◌≤ℤ◌, ◌<ℤ◌, List, [], ◌∷◌, length, refl, sym, ◌∙◌, ap, subst, arith, inl, inr, All}
use Rattle.std.proofs.lemmas.Bool.{cases_eq}
use Rattle.std.proofs.lemmas.Int.{ints}
use Rattle.std.proofs.lemmas.List.Elements.{All-nil, All-cons}
use Rattle.std.proofs.lemmas.List.Kept.{AllPairs-cons}
use Rattle.vw_lattice.specs.Entries.{map_below, HasKey}
use Rattle.vw_lattice.specs.Entries as entries
use Rattle.vw_lattice.specs.EntryOrder.{value_at_here, value_at_there, same_or_not, head_below, ascending_tail, index_of}
use Rattle.vw_names.specs.Division.{root, IsAscending, IsDivision}
use Rattle.vw_names.specs.DivisionOrder.{root_here, root_there, Falls, Covers, covers_length}
use Rattle.vw_names.specs.Spot.{slot_number}
use Rattle.vw_values.specs.declared.value.Value.{Value}
use Rattle.vw_values.specs.Values.{value_below}
use Rattle.vw_domain.specs.State.{key_of, AreSlots, IsThere, IsNamed}
use Rattle.vw_domain.proofs.LeaveLemmas.{number_is}

abbrev Slots : Type 0
Slots = List (ℤ × Value)

abbrev IsFar : ℤ → Type 0
IsFar key = (pos 0 -ℤ pos (2 ^ 33)) ≤ℤ key

abbrev AreFar : Slots → Type 0
AreFar slots = (key : ℤ) → HasKey slots key → IsFar key

-- ---- keys and numbers

number_of : (key : ℤ) → IsFar key → pos (slot_number key) ≡ (key +ℤ pos (2 ^ 64))
number_of key far = number_is key (omega (arith, ints, far))

above_places : (key : ℤ) → IsFar key → 257 ≤ slot_number key
above_places key far = let is = number_of key far in omega (arith, ints, is, far)

numbers_rise : (a b : ℤ) → IsFar a → IsFar b → a <ℤ b → slot_number a < slot_number b
numbers_rise a b far_a far_b less = let is_a = number_of a far_a in let is_b = number_of b far_b in omega (arith, ints, is_a, is_b, less)

numbers_apart : (a b : ℤ) → IsFar a → IsFar b → a ≢ b → slot_number a ≢ slot_number b
numbers_apart a b far_a far_b apart same = let is_a = number_of a far_a in let is_b = number_of b far_b in let one : a ≡ b = omega (arith, ints, is_a, is_b, same) in apart one

key_number : (a : ℕ) → IsFar (key_of a) → slot_number (key_of a) ≡ a
key_number a far = let is = number_of (key_of a) far in omega (arith, ints, is)

number_key : (key : ℤ) → IsFar key → key ≡ key_of (slot_number key)
number_key key far = let is = number_of key far in omega (arith, ints, is)

far_places : (a : ℕ) → IsFar (key_of a) → 257 ≤ a
far_places a far = omega (arith, ints, far)

-- ---- slots by the numbers of their keys

abbrev numbered : Slots → List (ℕ × ℕ)
numbered [] = []
numbered (s ∷ rest) = (slot_number s.0, 0) ∷ numbered rest

numbered_length : (slots : Slots) → length (numbered slots) ≡ length slots
numbered_length [] = refl
numbered_length (s ∷ rest) = ap suc (numbered_length rest)

has_more : (s : ℤ × Value) (rest : Slots) (key : ℤ) → HasKey rest key → HasKey (s ∷ rest) key
has_more s rest key has = elim (same_or_not s.0 key) [
  | inl same ↦ (s.1, value_at_here s rest key same)
  | inr other ↦ (has.0, value_at_there s rest key other ∙ has.1)
]

has_first : (s : ℤ × Value) (rest : Slots) → HasKey (s ∷ rest) s.0
has_first s rest = (s.1, value_at_here s rest s.0 refl)

key_above : (s : ℤ × Value) (rest : Slots) (key : ℤ) → entries.IsAscending (s ∷ rest) → HasKey rest key → s.0 <ℤ key
key_above s rest key ascends has =
    let i = index_of rest key has.0 has.1 in
    subst (λ (z : ℤ). s.0 <ℤ z) (i.2 s).0 (head_below s rest ascends i.0 s i.1)

numbered_above : (n : ℕ) (slots : Slots) → ((key : ℤ) → HasKey slots key → n < slot_number key) → All {X = ℕ × ℕ} (λ e. n < e.0) (numbered slots)
numbered_above n [] each = All-nil {X = ℕ × ℕ} (λ e. n < e.0)
numbered_above n (s ∷ rest) each =
    All-cons {X = ℕ × ℕ} (λ e. n < e.0) (slot_number s.0, 0) (numbered rest) (each s.0 (has_first s rest)) (numbered_above n rest (λ key has. each key (has_more s rest key has)))

numbered_ascends : (slots : Slots) → entries.IsAscending slots → AreFar slots → IsAscending (numbered slots)
numbered_ascends [] ascends far = λ i j d before within. absurd (omega (arith, within))
numbered_ascends (s ∷ rest) ascends far =
    AllPairs-cons {X = ℕ × ℕ} (λ earlier later. earlier.0 < later.0) (slot_number s.0, 0) (numbered rest)
    (numbered_above (slot_number s.0) rest (λ key has. numbers_rise s.0 key (far s.0 (has_first s rest)) (far key (has_more s rest key has)) (key_above s rest key ascends has)))
    (numbered_ascends rest (ascending_tail s rest ascends) (λ key has. far key (has_more s rest key has)))

numbered_falls : (slots : Slots) → AreFar slots → Falls (numbered slots)
numbered_falls [] far = All-nil {X = ℕ × ℕ} (λ e. e.1 < e.0)
numbered_falls (s ∷ rest) far =
    All-cons {X = ℕ × ℕ} (λ e. e.1 < e.0) (slot_number s.0, 0) (numbered rest) (let above = above_places s.0 (far s.0 (has_first s rest)) in omega (arith, above)) (numbered_falls rest (λ key has. far key (has_more s rest key has)))

numbered_root : (slots : Slots) (key : ℤ) → AreFar slots → HasKey slots key → root (numbered slots) (slot_number key) ≡ 0
numbered_root [] key far has = absurd cc
numbered_root (s ∷ rest) key far has = elim (same_or_not s.0 key) [
  | inl same ↦ root_here (slot_number s.0, 0) (numbered rest) (slot_number key) (ap slot_number same)
  | inr other ↦
      root_there (slot_number s.0, 0) (numbered rest) (slot_number key) (numbers_apart s.0 key (far s.0 (has_first s rest)) (far key has) other)
      ∙ numbered_root rest key (λ k h. far k (has_more s rest k h)) (has.0, sym (value_at_there s rest key other) ∙ has.1)
]

root_at_key : (slots : Slots) (a : ℕ) → AreFar slots → HasKey slots (key_of a) → root (numbered slots) a ≡ 0
root_at_key slots a far has = subst (λ (n : ℕ). root (numbered slots) n ≡ 0) (key_number a (far (key_of a) has)) (numbered_root slots (key_of a) far has)

numbered_key : (slots : Slots) (a : ℕ) → AreFar slots → root (numbered slots) a < a → HasKey slots (key_of a)
numbered_key [] a far key = absurd (omega (arith, key))
numbered_key (s ∷ rest) a far key = elim (cases_eq (slot_number s.0) a) [
  | inl same ↦ (s.1, value_at_here s rest (key_of a) (number_key s.0 (far s.0 (has_first s rest)) ∙ ap key_of same))
  | inr other ↦
      let there = root_there (slot_number s.0, 0) (numbered rest) a other in
      has_more s rest (key_of a) (numbered_key rest a (λ k h. far k (has_more s rest k h)) (omega (arith, there, key)))
]

far_slots : (slots : Slots) → AreSlots slots → AreFar slots
far_slots slots are key has = (are.within key has).0

-- what is above has no more slots
pub fewer_slots : (low high : Slots) → AreSlots low → AreSlots high → map_below value_below low high → length high ≤ length low
fewer_slots low high are_low are_high under =
    let far_low = far_slots low are_low in
    let far_high = far_slots high are_high in
    let covers : Covers (numbered low) (numbered high) = λ a key.
    let has = numbered_key high a far_high key in
    let lower = under (key_of a) has.0 has.1 in
    let is : root (numbered low) a ≡ 0 = root_at_key low a far_low (lower.0, lower.1) in
    omega (arith, is, key)
    in
    let counted = covers_length (numbered low) (numbered high) (numbered_ascends low are_low.ascending far_low) (numbered_ascends high are_high.ascending far_high) (numbered_falls low far_low) (numbered_falls high far_high) covers in
    omega (arith, counted.0, numbered_length low, numbered_length high)

-- ---- the places that can be in a class with another

-- so many numbers from one on, in front of a list
abbrev numbers_from : ℕ → ℕ → List (ℕ × ℕ) → List (ℕ × ℕ)
numbers_from from zero tail = tail
numbers_from from (suc n) tail = (from, 0) ∷ numbers_from (suc from) n tail

from_length : (from n : ℕ) (tail : List (ℕ × ℕ)) → length (numbers_from from n tail) ≡ n + length tail
from_length from zero tail = omega arith
from_length from (suc n) tail = let rest = from_length (suc from) n tail in omega (arith, rest)

from_above : (least from n : ℕ) (tail : List (ℕ × ℕ)) → least < from → All {X = ℕ × ℕ} (λ e. least < e.0) tail → All {X = ℕ × ℕ} (λ e. least < e.0) (numbers_from from n tail)
from_above least from zero tail less all = all
from_above least from (suc n) tail less all = All-cons {X = ℕ × ℕ} (λ e. least < e.0) (from, 0) (numbers_from (suc from) n tail) less (from_above least (suc from) n tail (omega (arith, less)) all)

from_ascends : (from n : ℕ) (tail : List (ℕ × ℕ)) → All {X = ℕ × ℕ} (λ e. from + n ≤ e.0) tail → IsAscending tail → IsAscending (numbers_from from n tail)
from_ascends from zero tail all ascends = ascends
from_ascends from (suc n) tail all ascends =
    let more : All {X = ℕ × ℕ} (λ e. from < e.0) tail = λ k d within. omega (arith, all k d within) in
    let next : All {X = ℕ × ℕ} (λ e. suc from + n ≤ e.0) tail = λ k d within. omega (arith, all k d within) in
    AllPairs-cons {X = ℕ × ℕ} (λ earlier later. earlier.0 < later.0) (from, 0) (numbers_from (suc from) n tail) (from_above from (suc from) n tail (omega arith) more) (from_ascends (suc from) n tail next ascends)

from_falls : (from n : ℕ) (tail : List (ℕ × ℕ)) → 0 < from → Falls tail → Falls (numbers_from from n tail)
from_falls from zero tail some falls = falls
from_falls from (suc n) tail some falls = All-cons {X = ℕ × ℕ} (λ e. e.1 < e.0) (from, 0) (numbers_from (suc from) n tail) some (from_falls (suc from) n tail (omega arith) falls)

root_among : (from n a : ℕ) (tail : List (ℕ × ℕ)) → from ≤ a → a < from + n → root (numbers_from from n tail) a ≡ 0
root_among from zero a tail low high = absurd (omega (arith, low, high))
root_among from (suc n) a tail low high = elim (cases_eq from a) [
  | inl same ↦ root_here (from, 0) (numbers_from (suc from) n tail) a same
  | inr other ↦ root_there (from, 0) (numbers_from (suc from) n tail) a other ∙ root_among (suc from) n a tail (omega (arith, low, other)) (omega (arith, high))
]

root_behind : (from n a : ℕ) (tail : List (ℕ × ℕ)) → from + n ≤ a → root (numbers_from from n tail) a ≡ root tail a
root_behind from zero a tail high = refl
root_behind from (suc n) a tail high =
    let other : from ≢ a = λ same. omega (arith, high, same) in
    root_there (from, 0) (numbers_from (suc from) n tail) a other ∙ root_behind (suc from) n a tail (omega (arith, high))

module _ (slots : Slots) (are : AreSlots slots) where
  -- the flags and the slots, and the registers in front of them
  abbrev behind : List (ℕ × ℕ)
  behind = (256, 0) ∷ numbered slots

  abbrev places : List (ℕ × ℕ)
  places = numbers_from 1 16 behind

  far : AreFar slots
  far = far_slots slots are

  slots_above : All {X = ℕ × ℕ} (λ e. 256 < e.0) (numbered slots)
  slots_above = numbered_above 256 slots (λ key has. let above = above_places key (far key has) in omega (arith, above))

  behind_above : All {X = ℕ × ℕ} (λ e. 17 ≤ e.0) behind
  behind_above = All-cons {X = ℕ × ℕ} (λ e. 17 ≤ e.0) (256, 0) (numbered slots) (omega arith) (λ k d within. let above = slots_above k d within in omega (arith, above))

  behind_ascends : IsAscending behind
  behind_ascends = AllPairs-cons {X = ℕ × ℕ} (λ earlier later. earlier.0 < later.0) (256, 0) (numbered slots) slots_above (numbered_ascends slots are.ascending far)

  behind_falls : Falls behind
  behind_falls = All-cons {X = ℕ × ℕ} (λ e. e.1 < e.0) (256, 0) (numbered slots) (omega arith) (numbered_falls slots far)

  at_slot : (a : ℕ) → HasKey slots (key_of a) → root places a ≡ 0
  at_slot a has =
      let above : 257 ≤ a = far_places a (far (key_of a) has) in
      let other : 256 ≢ a = λ same. omega (arith, above, same) in
      root_behind 1 16 a behind (omega (arith, above)) ∙ (root_there (256, 0) (numbered slots) a other ∙ root_at_key slots a far has)

  at_place : (a : ℕ) → 0 < a → IsThere slots a → root places a ≡ 0
  at_place a some (inl (inl less)) = root_among 1 16 a behind (omega (arith, some)) (omega (arith, less))
  at_place a some (inl (inr is)) = root_behind 1 16 a behind (omega (arith, is)) ∙ root_here (256, 0) (numbered slots) a (sym is)
  at_place a some (inr has) = at_slot a has

  -- classes name registers, the flags and slots; register 0 is the least place of its class
  pub few_classes : (classes : List (ℕ × ℕ)) → IsDivision classes → IsNamed slots classes → length classes ≤ 18 + length slots
  few_classes classes division named =
      let covers : Covers places classes = λ a key.
      let there = named a (root classes a) (sym (division.settled a)) (λ same. omega (arith, key, same)) in
      let is : root places a ≡ 0 = at_place a (omega (arith, key)) there in
      omega (arith, is, key)
      in
      let counted = covers_length places classes (from_ascends 1 16 behind behind_above behind_ascends) division.ascending (from_falls 1 16 behind (omega arith) behind_falls) division.falls covers in
      omega (arith, counted.0, from_length 1 16 behind, numbered_length slots)
