-- The tests of ranges and slots, one by one, tell whether they are parts of a state; and sets and maps that are made of them.
use mir.Val.{SFits}
use Rattle.std.proofs.Common.{w64, rules, ◌≡◌, ◌≢◌, ◌⊎◌, ◌↔◌, ℕ, zero, suc, ◌+◌, ◌^◌, ◌<◌, ◌≤◌, List, [], ◌∷◌, ◌++◌, length, get_or, set, take, drop, map, refl, sym, ap, subst, ◌∙◌, arith, inl, inr, below_more, Some, None, true}
use Rattle.std.proofs.lemmas.Int.{ints}
use Rattle.std.proofs.lemmas.Bool.{cases_lt, or_left, or_right, or_cases, and_parts}
use Rattle.std.proofs.lemmas.List.{drop_more, drop_all, get_or-set_other, get_or-set_same, take_more, append-nil, get_or-take, get_or_default, length-take, length-set, length-map}
use Rattle.std.specs.Prelude.{ℤ, int_le, int_lt, pos, ◌+ℤ◌, ◌-ℤ◌, ◌<ℤ◌, ◌≤ℤ◌, ◌==◌, if◌then◌else◌, ◌||◌, Option}
use Rattle.std.specs.List.{All, AllPairs}
use Rattle.vw_lattice.specs.Entries.{value_at, IsAscending}
use Rattle.vw_lattice.specs.EntryOrder.{value_at_here, value_at_there, same_or_not, ascending_tail, tail_above, apart_from_lt, ValueLaws, map_antisymmetric, value_at_absent, value_at_append_absent, value_at_without}
use Rattle.vw_locals.specs.Ranges.{is_written, is_between, IsRanges, written_below}
use Rattle.vw_locals.specs.RangeOrder.{IsInRange, written_cases, written_here, written_there, ranges_tail, filled_head, head_apart, ranges_cons, written_antisymmetric}
use Rattle.vw_stack.specs.declared.offset.Offset.{Offset}
use Rattle.vw_values.specs.declared.value.Value.{Value}
use Rattle.vw_values.specs.declared.value.Value.TheVariants.{Any}
use Rattle.vw_values.specs.Values.{IsValue}
use Rattle.vw_domain.specs.declared.state_parts.Slot.{Slot}
use Rattle.vw_domain.specs.State.{AreSlots, IsNarrow, wide_key, narrow_key}
use Rattle.vw_domain.specs.declared.registers.Register.{Register}
use Rattle.vw_domain.specs.Registers.{register_at, unknown_register, IsRegister}
use Rattle.vw_domain.specs.StateParts.{HasSize, entry_of, offset_of}
use Rattle.vw_domain.specs.PartRanges.{AreFrameRanges, AreSlotParts, HasNoRow, IsNextRange, IsNextSlot, IsRowOf, IsSlot}
use Rattle.vw_domain.proofs.PartLemmas.{first_written, map_at}

all_cons : {X : Type 0} (P : X → Type 0) (x : X) (xs : List X) → P x → All P xs → All P (x ∷ xs)
all_cons P x xs here rest = go
  where
    go : All P (x ∷ xs)
    go zero d within = here
    go (suc k) d within = rest k d (omega arith)

pairs_cons : {X : Type 0} (R : X → X → Type 0) (x : X) (xs : List X) → All (R x) xs → AllPairs R xs → AllPairs R (x ∷ xs)
pairs_cons R x xs first rest = go
  where
    go : AllPairs R (x ∷ xs)
    go zero zero d before within = absurd (omega arith)
    go zero (suc j) d before within = first j d (omega arith)
    go (suc i) zero d before within = absurd (omega arith)
    go (suc i) (suc j) d before within = rest i j d (omega arith) (omega arith)

-- ---- ranges

-- each is next to the one before, the first to one that ends at `end`
abbrev pub RangesAbove : ℤ → List (ℤ × ℤ) → Type 0
RangesAbove end [] = Unit {0}
RangesAbove end (range ∷ rest) = IsNextRange end range × RangesAbove range.1 rest

above_all : (end : ℤ) (ranges : List (ℤ × ℤ)) → RangesAbove end ranges → All (λ range. (end +ℤ pos 1) <ℤ range.0) ranges
above_all end [] above = λ k d within. absurd (omega arith)
above_all end (range ∷ rest) above =
    let behind = above.0.behind in
    let filled = above.0.filled in
    let later = above_all range.1 rest above.1 in
    all_cons (λ (r : ℤ × ℤ). (end +ℤ pos 1) <ℤ r.0) range rest behind (λ k d within. let next = later k d within in omega (arith, ints))

above_ranges : (end : ℤ) (ranges : List (ℤ × ℤ)) → RangesAbove end ranges → IsRanges ranges
above_ranges end [] above = record { filled = λ k d within. absurd (omega arith); apart = λ i j d before within. absurd (omega arith) }
above_ranges end (range ∷ rest) above = ranges_cons range rest above.0.filled (above_all range.1 rest above.1) (above_ranges range.1 rest above.1)

above_frame : (end : ℤ) (ranges : List (ℤ × ℤ)) (x : ℤ) → RangesAbove end ranges → is_written ranges x ≡ true → ((end +ℤ pos 1) <ℤ x) × (x <ℤ pos 0)
above_frame end [] x above is = absurd (cc)
above_frame end (range ∷ rest) x above is =
    let behind = above.0.behind in
    let filled = above.0.filled in
    let frame = above.0.frame in
    elim (written_cases range rest x is) [
      | inl here ↦ let low = here.low in let high = here.high in (omega (arith, ints), omega (arith, ints))
      | inr there ↦ let later = above_frame range.1 rest x above.1 there in let low = later.0 in let high = later.1 in (omega (arith, ints), omega (arith, ints))
    ]

ranges_above : (end : ℤ) (ranges : List (ℤ × ℤ)) → IsRanges ranges → All (λ range. (end +ℤ pos 1) <ℤ range.0) ranges → ((x : ℤ) → is_written ranges x ≡ true → x <ℤ pos 0) → RangesAbove end ranges
ranges_above end [] are behind low = tt
ranges_above end (range ∷ rest) are behind low =
    let filled = filled_head range rest are in (
      record { behind = behind 0 range (omega arith); filled = filled; frame = low range.1 (written_here range rest range.1 (record { low = filled; high = omega (arith, ints) })) },
      ranges_above range.1 rest (ranges_tail range rest are) (head_apart range rest are) (λ x is. low x (written_there range rest x is)),
    )

-- the end before the first offset of a frame, and one more
abbrev pub before_frame : ℤ
before_frame = (pos 0 -ℤ pos (2 ^ 32)) -ℤ pos 2

pub ranges_tell : (ranges : List (ℤ × ℤ)) → RangesAbove before_frame ranges ↔ AreFrameRanges ranges
ranges_tell ranges = (
  λ above. record {
    ranges = above_ranges before_frame ranges above;
    frame = λ x is. let both = above_frame before_frame ranges x above is in let low = both.0 in let high = both.1 in (omega (arith, ints), omega (arith, ints));
  },
  λ are. ranges_above before_frame ranges are.ranges
      (λ k d within. let first = (are.frame (get_or ranges k d).0 (first_written ranges d k are.ranges within)).0 in omega (arith, ints))
      (λ x is. (are.frame x is).1),
)

-- a set with one range more
push_cases : (ranges : List (ℤ × ℤ)) (range : ℤ × ℤ) (x : ℤ) → is_written (ranges ++ range ∷ []) x ≡ true → IsInRange range x ⊎ (is_written ranges x ≡ true)
push_cases [] range x is = elim (written_cases range [] x is) [ inl here ↦ inl here | inr there ↦ absurd (cc) ]
push_cases (r ∷ rest) range x is = elim (written_cases r (rest ++ range ∷ []) x is) [
  | inl here ↦ inr (written_here r rest x here)
  | inr there ↦ elim (push_cases rest range x there) [ inl here ↦ inl here | inr before ↦ inr (written_there r rest x before) ]
]

push_here : (ranges : List (ℤ × ℤ)) (range : ℤ × ℤ) (x : ℤ) → IsInRange range x → is_written (ranges ++ range ∷ []) x ≡ true
push_here [] range x is = written_here range [] x is
push_here (r ∷ rest) range x is = written_there r (rest ++ range ∷ []) x (push_here rest range x is)

push_there : (ranges : List (ℤ × ℤ)) (range : ℤ × ℤ) (x : ℤ) → is_written ranges x ≡ true → is_written (ranges ++ range ∷ []) x ≡ true
push_there [] range x is = absurd (cc)
push_there (r ∷ rest) range x is = elim (written_cases r rest x is) [
  | inl here ↦ written_here r (rest ++ range ∷ []) x here
  | inr there ↦ written_there r (rest ++ range ∷ []) x (push_there rest range x there)
]

-- the same bytes
pub record AreSame (a b : List (ℤ × ℤ)) : Type 0 where
  pub to : written_below b a
  pub from : written_below a b

pub same_push : (ranges old new : List (ℤ × ℤ)) (i : ℕ) (range : ℤ × ℤ) → i < length ranges → get_or ranges i range ≡ range
    → ((x : ℤ) → IsInRange range x → is_written new x ≡ true) → ((x : ℤ) → is_written old x ≡ true → is_written new x ≡ true)
    → ((x : ℤ) → is_written new x ≡ true → IsInRange range x ⊎ (is_written old x ≡ true))
    → AreSame old (take i ranges) → AreSame new (take (i + 1) ranges)
same_push ranges old new i range within is here there back same =
    let push : ℤ × ℤ → List (ℤ × ℤ) = λ r. take i ranges ++ r ∷ [] in
    let front : List (ℤ × ℤ) = take i ranges in
    let P : List (ℤ × ℤ) → Type 0 = λ xs. AreSame new xs in
    subst P (sym (take_more ranges i range within ∙ ap push is)) (record {
      to = λ x w. elim (back x w) [ inl at ↦ push_here front range x at | inr before ↦ push_there front range x (same.to x before) ];
      from = λ x w. elim (push_cases front range x w) [ inl at ↦ here x at | inr before ↦ there x (same.from x before) ];
    })

pub same_set : (a b : List (ℤ × ℤ)) → IsRanges a → IsRanges b → AreSame a b → a ≡ b
same_set a b is_a is_b same = written_antisymmetric a b is_a is_b same.from same.to

-- ---- slots

abbrev pub SlotsAbove : ℤ → List Slot → Type 0
SlotsAbove last [] = Unit {0}
SlotsAbove last (slot ∷ rest) = IsNextSlot last slot × SlotsAbove slot.offset rest

-- the key of a slot of 4 bytes, and of one of 8
abbrev key_by : Slot → ℕ → ℤ
key_by slot n = if n == 4 then narrow_key slot.offset else wide_key slot.offset

pub key_of_4 : (slot : Slot) → slot.size ≡ 4 → (entry_of slot).0 ≡ narrow_key slot.offset
key_of_4 slot is = ap (key_by slot) is

pub key_of_8 : (slot : Slot) → slot.size ≡ 8 → (entry_of slot).0 ≡ wide_key slot.offset
key_of_8 slot is = ap (key_by slot) is

-- a key is one of the two at its slot's offset
key_cases : (slot : Slot) → HasSize slot → ((entry_of slot).0 ≡ narrow_key slot.offset) ⊎ ((entry_of slot).0 ≡ wide_key slot.offset)
key_cases slot size = elim size [ inl four ↦ inl (key_of_4 slot four) | inr eight ↦ inr (key_of_8 slot eight) ]

-- the slot that stands at a key
record IsFound (last : ℤ) (key : ℤ) (value : Value) : Type 0 where
  slot : Slot
  is : IsSlot slot
  behind : last <ℤ slot.offset
  key_is : (entry_of slot).0 ≡ key
  value_is : slot.value ≡ value

some_same : (v w : Value) → Some v ≡ Some w → v ≡ w
some_same v w same = cc

found : (last : ℤ) (slots : List Slot) (key : ℤ) (value : Value) → SlotsAbove last slots → value_at (map entry_of slots) key ≡ Some value → IsFound last key value
found last [] key value above at = absurd (cc)
found last (slot ∷ rest) key value above at = elim (same_or_not (entry_of slot).0 key) [
  | inl same ↦ record {
    slot = slot;
    is = above.0.slot;
    behind = above.0.behind;
    key_is = same;
    value_is = some_same slot.value value (sym (value_at_here (entry_of slot) (map entry_of rest) key same) ∙ at);
  }
  | inr apart ↦
      let f = found slot.offset rest key value above.1 (sym (value_at_there (entry_of slot) (map entry_of rest) key apart) ∙ at) in
      let first = above.0.behind in
      let later = f.behind in
      record { slot = f.slot; is = f.is; behind = omega (arith, ints); key_is = f.key_is; value_is = f.value_is }
]

-- the keys are above those at the offset before
keys_above : (last : ℤ) (slots : List Slot) → SlotsAbove last slots → All (λ entry. narrow_key last <ℤ entry.0) (map entry_of slots)
keys_above last [] above = λ k d within. absurd (omega arith)
keys_above last (slot ∷ rest) above =
    let behind = above.0.behind in
    let later = keys_above slot.offset rest above.1 in
    all_cons (λ (e : ℤ × Value). narrow_key last <ℤ e.0) (entry_of slot) (map entry_of rest)
    (elim (key_cases slot above.0.slot.size) [ inl narrow ↦ omega (arith, ints) | inr wide ↦ omega (arith, ints) ])
    (λ k d within. let next = later k d within in omega (arith, ints))

ascends : (last : ℤ) (slots : List Slot) → SlotsAbove last slots → IsAscending (map entry_of slots)
ascends last [] above = λ i j d before within. absurd (omega arith)
ascends last (slot ∷ rest) above =
    let later = keys_above slot.offset rest above.1 in
    pairs_cons (λ (a b : ℤ × Value). a.0 <ℤ b.0) (entry_of slot) (map entry_of rest)
    (λ k d within.
    let next = later k d within in
    elim (key_cases slot above.0.slot.size) [ inl narrow ↦ omega (arith, ints) | inr wide ↦ omega (arith, ints) ])
    (ascends slot.offset rest above.1)

-- one offset has one slot
one_slot : (last : ℤ) (slots : List Slot) (o : ℤ) (v w : Value) → SlotsAbove last slots → value_at (map entry_of slots) (wide_key o) ≡ Some v → value_at (map entry_of slots) (narrow_key o) ≡ Some w → ⊥
one_slot last [] o v w above wide narrow = absurd (cc)
one_slot last (slot ∷ rest) o v w above wide narrow =
    let key : ℤ = (entry_of slot).0 in
    let cases = key_cases slot above.0.slot.size in
    elim (same_or_not key (wide_key o)) [
      | inl at_wide ↦
          let off : key ≢ narrow_key o = λ same. omega (arith, ints) in
          let f = found slot.offset rest (narrow_key o) w above.1 (sym (value_at_there (entry_of slot) (map entry_of rest) (narrow_key o) off) ∙ narrow) in
          let later = f.behind in
          let key_is = f.key_is in
          elim cases [
            | inl n ↦ omega (arith, ints)
            | inr m ↦ elim (key_cases f.slot f.is.size) [ inl a ↦ omega (arith, ints) | inr b ↦ omega (arith, ints) ]
          ]
      | inr off_wide ↦
          let back : value_at (map entry_of rest) (wide_key o) ≡ Some v = sym (value_at_there (entry_of slot) (map entry_of rest) (wide_key o) off_wide) ∙ wide in
          elim (same_or_not key (narrow_key o)) [
            | inl at_narrow ↦
                let f = found slot.offset rest (wide_key o) v above.1 back in
                let later = f.behind in
                let key_is = f.key_is in
                elim cases [
                  | inl n ↦ elim (key_cases f.slot f.is.size) [ inl a ↦ omega (arith, ints) | inr b ↦ omega (arith, ints) ]
                  | inr m ↦ omega (arith, ints)
                ]
            | inr off_narrow ↦ one_slot slot.offset rest o v w above.1 back (sym (value_at_there (entry_of slot) (map entry_of rest) (narrow_key o) off_narrow) ∙ narrow)
          ]
    ]

sizes : (last : ℤ) (slots : List Slot) → SlotsAbove last slots → All HasSize slots
sizes last [] above = λ k d within. absurd (omega arith)
sizes last (slot ∷ rest) above = all_cons HasSize slot rest above.0.slot.size (sizes slot.offset rest above.1)

slots_are : (last : ℤ) (slots : List Slot) → SlotsAbove last slots → AreSlots (map entry_of slots)
slots_are last slots above = record {
  ascending = ascends last slots above;
  within = λ key has.
      let f = found last slots key has.0 above has.1 in
      let low = f.is.offset.0 in
      let high = f.is.offset.1 in
      let is = f.key_is in
      elim (key_cases f.slot f.is.size) [
        | inl a ↦ (omega (arith, ints), omega (arith, ints))
        | inr b ↦ (omega (arith, ints), omega (arith, ints))
      ];
  values = λ key v at. let f = found last slots key v above at in subst IsValue f.value_is f.is.value;
  narrow = λ o v at.
      let f = found last slots (narrow_key o) v above at in
      let is = f.key_is in
      subst IsNarrow f.value_is (elim f.is.size [
        | inl four ↦ f.is.narrow four
        | inr eight ↦ let wide = key_of_8 f.slot eight in absurd (omega (arith, ints))
      ]);
  apart = λ o wide narrow. one_slot last slots o wide.0 narrow.0 above wide.1 narrow.1;
}

-- ---- and back

in_rest : (entry : ℤ × Value) (rest : List (ℤ × Value)) (key : ℤ) (value : Value) → IsAscending (entry ∷ rest) → value_at rest key ≡ Some value → value_at (entry ∷ rest) key ≡ Some value
in_rest entry rest key value ascending at = value_at_there entry rest key (apart_from_lt entry.0 key (tail_above entry rest key value ascending at)) ∙ at

slots_rest : (entry : ℤ × Value) (rest : List (ℤ × Value)) → AreSlots (entry ∷ rest) → AreSlots rest
slots_rest entry rest are = record {
  ascending = ascending_tail entry rest are.ascending;
  within = λ key has. are.within key (has.0, in_rest entry rest key has.0 are.ascending has.1);
  values = λ key v at. are.values key v (in_rest entry rest key v are.ascending at);
  narrow = λ o v at. are.narrow o v (in_rest entry rest (narrow_key o) v are.ascending at);
  apart = λ o wide narrow. are.apart o (wide.0, in_rest entry rest (wide_key o) wide.0 are.ascending wide.1) (narrow.0, in_rest entry rest (narrow_key o) narrow.0 are.ascending narrow.1);
}

slot_is : (slot : Slot) (rest : List (ℤ × Value)) → HasSize slot → AreSlots (entry_of slot ∷ rest) → IsSlot slot
slot_is slot rest size are =
    let key : ℤ = (entry_of slot).0 in
    let at : value_at (entry_of slot ∷ rest) key ≡ Some slot.value = value_at_here (entry_of slot) rest key refl in
    let bounds = are.within key (slot.value, at) in
    let low = bounds.0 in
    let high = bounds.1 in
    record {
      size = size;
      value = are.values key slot.value at;
      narrow = λ four. are.narrow slot.offset slot.value (value_at_here (entry_of slot) rest (narrow_key slot.offset) (key_of_4 slot four));
      offset = elim (key_cases slot size) [
        | inl a ↦ (omega (arith, ints), omega (arith, ints))
        | inr b ↦ (omega (arith, ints), omega (arith, ints))
      ];
    }

slots_above : (last : ℤ) (slots : List Slot) → All HasSize slots → AreSlots (map entry_of slots) → ((key : ℤ) (v : Value) → value_at (map entry_of slots) key ≡ Some v → narrow_key last <ℤ key) → SlotsAbove last slots
slots_above last [] all are low = tt
slots_above last (slot ∷ rest) all are low =
    let key : ℤ = (entry_of slot).0 in
    let size : HasSize slot = all 0 slot (omega arith) in
    let entries : List (ℤ × Value) = map entry_of rest in
    let above = low key slot.value (value_at_here (entry_of slot) entries key refl) in (
      record {
        behind = elim (key_cases slot size) [ inl a ↦ omega (arith, ints) | inr b ↦ omega (arith, ints) ];
        slot = slot_is slot entries size are;
      },
      slots_above slot.offset rest (λ k d within. all (suc k) d (omega arith)) (slots_rest (entry_of slot) entries are) (λ k v at.
          let behind = tail_above (entry_of slot) entries k v are.ascending at in
          elim (key_cases slot size) [
            | inl a ↦ omega (arith, ints)
            | inr b ↦ elim (same_or_not k (narrow_key slot.offset)) [
              | inl same ↦ absurd (are.apart slot.offset
                  (slot.value, value_at_here (entry_of slot) entries (wide_key slot.offset) b)
                  (v, subst (λ (x : ℤ). value_at (entry_of slot ∷ entries) x ≡ Some v) same (in_rest (entry_of slot) entries k v are.ascending at)))
              | inr apart ↦ omega (arith, ints)
            ]
          ]),
    )

abbrev pub before_slots : ℤ
before_slots = (pos 0 -ℤ pos (2 ^ 32)) -ℤ pos 1

pub slots_tell : (slots : List Slot) → SlotsAbove before_slots slots ↔ AreSlotParts slots
slots_tell slots = (
  λ above. record { sizes = sizes before_slots slots above; slots = slots_are before_slots slots above },
  λ are. slots_above before_slots slots are.sizes are.slots (λ key v at. let low = (are.slots.within key (v, at)).0 in omega (arith, ints)),
)

-- ---- a map with one key more

same_laws : ValueLaws (λ (v : Value). Unit {0}) (λ (v w : Value). v ≡ w) (λ (v : Value). 0)
same_laws = record { reflexive = λ x v. refl; transitive = λ x y z u v w f g. f ∙ g; falls = λ x y u v f. omega arith; strict = λ x y u v f same. f }

-- ascending maps with the same values are one
same_map : (a b : List (ℤ × Value)) → IsAscending a → IsAscending b → ((key : ℤ) → value_at a key ≡ value_at b key) → a ≡ b
same_map a b is_a is_b same =
    map_antisymmetric (λ (v : Value). Unit {0}) (λ (v w : Value). v ≡ w) (λ (v : Value). 0) same_laws a b
    (record { ascending = is_a; values = λ key v at. tt }) (record { ascending = is_b; values = λ key v at. tt })
    (λ key v at. (v, same key ∙ at, refl)) (λ key v at. (v, sym (same key) ∙ at, refl))

take_ascends : (entries : List (ℤ × Value)) (n : ℕ) → IsAscending entries → IsAscending (take n entries)
take_ascends entries n are = λ i j d before within.
    let size = length-take n entries in
    let first : get_or (take n entries) i d ≡ get_or entries i d = get_or-take n entries i d (omega arith) in
    let second : get_or (take n entries) j d ≡ get_or entries j d = get_or-take n entries j d (omega arith) in
    let P : ℤ × Value → Type 0 = λ e. e.0 <ℤ (get_or (take n entries) j d).0 in
    let Q : ℤ × Value → Type 0 = λ e. (get_or entries i d).0 <ℤ e.0 in
    subst P (sym first) (subst Q (sym second) (are i j d before (omega arith)))

pub put_next : (entries old new : List (ℤ × Value)) (i : ℕ) (entry : ℤ × Value) → IsAscending entries → i < length entries → get_or entries i entry ≡ entry
    → old ≡ take i entries → IsAscending new → value_at new entry.0 ≡ Some entry.1 → ((other : ℤ) → other ≢ entry.0 → value_at new other ≡ value_at old other) → new ≡ take (i + 1) entries
put_next entries old new i entry are within is so_far is_new here others =
    let front : List (ℤ × Value) = take i entries in
    let size = length-take i entries in
    let push : ℤ × Value → List (ℤ × Value) = λ e. front ++ e ∷ [] in
    let next : take (i + 1) entries ≡ front ++ entry ∷ [] = take_more entries i entry within ∙ ap push is in
    let absent : value_at front entry.0 ≡ None = value_at_absent front entry.0 (λ k d inside.
    let at : get_or front k d ≡ get_or entries k d = get_or-take i entries k d (omega arith) in
    let less : (get_or entries k entry).0 <ℤ (get_or entries i entry).0 = are k i entry (omega arith) within in
    let less_d : (get_or entries k d).0 <ℤ (get_or entries i d).0 = are k i d (omega arith) within in
    let P : ℤ × Value → Type 0 = λ e. e.0 ≢ entry.0 in
    let Q : ℤ × Value → Type 0 = λ e. (get_or entries k entry).0 ≢ e.0 in
    let R : ℤ × Value → Type 0 = λ e. e.0 ≢ entry.0 in
    subst P (sym at) (subst R (get_or_same entries k entry d (omega arith)) (subst Q is (apart_from_lt _ _ less)))) in
    let same : (key : ℤ) → value_at new key ≡ value_at (front ++ entry ∷ []) key = λ key. elim (same_or_not key entry.0) [
      | inl at ↦ ap (value_at new) at ∙ here ∙ sym (ap (value_at (front ++ entry ∷ [])) at ∙ value_at_append_absent front (entry ∷ []) entry.0 absent ∙ value_at_here entry [] entry.0 refl)
      | inr off ↦
          let with_old : List (ℤ × Value) → Value → Type 0 = λ m v. value_at m key ≡ Some v in
          others key off ∙ ap (λ (m : List (ℤ × Value)). value_at m key) so_far ∙ sym (value_at_without front entry [] key off ∙ ap (λ (m : List (ℤ × Value)). value_at m key) (append-nil front))
    ] in
    let ascending : IsAscending (front ++ entry ∷ []) = subst (λ (m : List (ℤ × Value)). IsAscending m) next (take_ascends entries (i + 1) are) in
    same_map new (front ++ entry ∷ []) is_new ascending same ∙ sym next
  where
    get_or_same : (xs : List (ℤ × Value)) (k : ℕ) (d e : ℤ × Value) → k < length xs → get_or xs k d ≡ get_or xs k e
    get_or_same xs k d e inside = get_or_default xs k d e inside

-- ---- the loops of the tests

module _ (end : ℤ) (ranges : List (ℤ × ℤ)) (i : ℕ) where
  pub ranges_next : (d : ℤ × ℤ) → i < length ranges → (RangesAbove before_frame ranges → RangesAbove end (drop i ranges)) → AreFrameRanges ranges → IsNextRange end (get_or ranges i d)
  ranges_next d within from are = (subst (λ (xs : List (ℤ × ℤ)). RangesAbove end xs) (drop_more ranges i d within) (from ((ranges_tell ranges).1 are))).0

  pub ranges_end : length ranges ≤ i → (RangesAbove end (drop i ranges) → RangesAbove before_frame ranges) → AreFrameRanges ranges
  ranges_end all to = (ranges_tell ranges).0 (to (subst (λ (xs : List (ℤ × ℤ)). RangesAbove end xs) (sym (drop_all i ranges all)) tt))

module _ (last : ℤ) (slots : List Slot) (i : ℕ) where
  pub slots_next : (d : Slot) → i < length slots → (SlotsAbove before_slots slots → SlotsAbove last (drop i slots)) → AreSlotParts slots → IsNextSlot last (get_or slots i d)
  slots_next d within from are = (subst (λ (xs : List Slot). SlotsAbove last xs) (drop_more slots i d within) (from ((slots_tell slots).1 are))).0

  pub slots_end : length slots ≤ i → (SlotsAbove last (drop i slots) → SlotsAbove before_slots slots) → AreSlotParts slots
  slots_end all to = (slots_tell slots).0 (to (subst (λ (xs : List Slot). SlotsAbove last xs) (sym (drop_all i slots all)) tt))

-- ---- rows

set_each : (P : ℕ → Register → Type 0) (i : ℕ) (row : List Register) (v : Register) → i < length row → ((r : ℕ) → r < i → P r (register_at row r)) → P i v → (r : ℕ) → r < i + 1 → P r (register_at (set row i v) r)
set_each P i row v within each here =
    below_more _ _
    (λ r h. let other : r ≢ i = omega arith in subst (λ (x : Register). P r x) (sym (get_or-set_other row i r v unknown_register other)) (each r h))
    (subst (λ (x : Register). P i x) (sym (get_or-set_same row i v unknown_register within)) here)

-- the first n registers are set
pub record IsFront (cs : List (Option ℤ)) (vs : List Value) (n : ℕ) (row : List Register) : Type 0 where
  pub seventeen : length row ≡ 17
  pub rest : (r : ℕ) → n ≤ r → register_at row r ≡ unknown_register
  pub registers : (r : ℕ) → r < n → IsRegister (register_at row r)
  pub offsets : (r : ℕ) → r < n → offset_of (get_or cs r None) ≡ (register_at row r).offset
  pub values : (r : ℕ) → r < n → get_or vs r Any ≡ (register_at row r).value

pub front_step : (cs : List (Option ℤ)) (vs : List Value) (n : ℕ) (row : List Register) (v : Register) → n < 17 → IsFront cs vs n row → IsRegister v → v ≡ record { offset = offset_of (get_or cs n None); value = get_or vs n Any } → IsFront cs vs (n + 1) (set row n v)
front_step cs vs n row v small front is made =
    let size = length-set row n v in
    let seventeen = front.seventeen in
    let within : n < length row = omega arith in
    let offset : Register → Offset = λ r. r.offset in
    let value : Register → Value = λ r. r.value in
    record {
      seventeen = omega arith;
      rest = λ r h. let other : r ≢ n = omega arith in get_or-set_other row n r v unknown_register other ∙ front.rest r (omega arith);
      registers = set_each (λ r x. IsRegister x) n row v within front.registers is;
      offsets = set_each (λ r x. offset_of (get_or cs r None) ≡ x.offset) n row v within front.offsets (sym (ap offset made));
      values = set_each (λ r x. get_or vs r Any ≡ x.value) n row v within front.values (sym (ap value made));
    }

pub front_row : (cs : List (Option ℤ)) (vs : List Value) (row : List Register) → length cs ≡ 16 → length vs ≡ 16 → IsFront cs vs 16 row → IsRowOf cs vs row
front_row cs vs row a b front = record {
  row = record {
    seventeen = front.seventeen;
    registers = λ r. elim (cases_lt r 16) [
      | inl less ↦ front.registers r less
      | inr more ↦ subst (λ (x : Register). IsRegister x) (sym (front.rest r more)) (record { value = tt; offset = tt })
    ];
  };
  unknown = front.rest 16 (omega arith);
  offsets = record { length = a; each = front.offsets };
  values = record { length = b; each = front.values };
}

pub no_front : (cs : List (Option ℤ)) (vs : List Value) (n : ℕ) (v : Register) → n < 16 → (IsRegister v → ⊥) → v ≡ record { offset = offset_of (get_or cs n None); value = get_or vs n Any } → HasNoRow cs vs
no_front cs vs n v small none made = λ row is a b.
    let here : Register = register_at row n in
    let from_parts : Offset → Value → Register = λ o w. record { offset = o; value = w } in
    let same : v ≡ here = made ∙ ap (λ (o : Offset). from_parts o (get_or vs n Any)) (a.each n small) ∙ ap (from_parts here.offset) (b.each n small) in
    none (subst (λ (x : Register). IsRegister x) (sym same) (is.registers n))

-- ---- what is made of ranges and slots

above_at : (end : ℤ) (ranges : List (ℤ × ℤ)) (k : ℕ) (d : ℤ × ℤ) → RangesAbove end ranges → k < length ranges → IsNextRange end (get_or ranges k d)
above_at end [] k d above within = absurd (omega arith)
above_at end (range ∷ rest) zero d above within = above.0
above_at end (range ∷ rest) (suc k) d above within =
    let next = above_at range.1 rest k d above.1 (omega arith) in
    let behind = above.0.behind in
    let filled = above.0.filled in
    let later = next.behind in
    record { behind = omega (arith, ints); filled = next.filled; frame = next.frame }

pub range_at : (ranges : List (ℤ × ℤ)) (k : ℕ) (d : ℤ × ℤ) → AreFrameRanges ranges → k < length ranges → IsNextRange before_frame (get_or ranges k d)
range_at ranges k d are within = above_at before_frame ranges k d ((ranges_tell ranges).1 are) within

-- the offset behind one of the frame fits
pub next_fits : (z : ℤ) → (pos 0 -ℤ pos (2 ^ 34)) ≤ℤ z → z <ℤ pos 0 → SFits w64 (z +ℤ pos 1)
next_fits z low high = first_of (search rules, omega (arith, ints), grind (arith, ints))

between_to : (lo hi x : ℤ) → is_between lo hi x ≡ true → (lo ≤ℤ x) × (x <ℤ hi)
between_to lo hi x is = let both = and_parts (int_le lo x) (int_lt x hi) is in (grind (arith, ints, both.0), grind (arith, ints, both.1))

between_from : (lo hi x : ℤ) → lo ≤ℤ x → x <ℤ hi → is_between lo hi x ≡ true
between_from lo hi x low high = grind (arith, ints)

pub added_same : (ranges old new : List (ℤ × ℤ)) (i : ℕ) (d : ℤ × ℤ) (lo hi : ℤ) → i < length ranges → lo ≡ (get_or ranges i d).0 → hi ≡ (get_or ranges i d).1 +ℤ pos 1
    → ((x : ℤ) → is_written new x ≡ (is_between lo hi x || is_written old x)) → AreSame old (take i ranges) → AreSame new (take (i + 1) ranges)
added_same ranges old new i d lo hi within low high added same =
    let range : ℤ × ℤ = get_or ranges i d in
    same_push ranges old new i range within (get_or_default ranges i range d within)
    (λ x at. let a = at.low in let b = at.high in added x ∙ or_left (is_between lo hi x) (is_written old x) (between_from lo hi x (omega (arith, ints)) (omega (arith, ints))))
    (λ x was. added x ∙ or_right (is_between lo hi x) (is_written old x) was)
    (λ x is. elim (or_cases (is_between lo hi x) (is_written old x) (sym (added x) ∙ is)) [
      | inl at ↦ let both = between_to lo hi x at in let a = both.0 in let b = both.1 in inl (record { low = omega (arith, ints); high = omega (arith, ints) })
      | inr was ↦ inr was
    ])
    same

pub same_none : AreSame [] []
same_none = record { to = λ x w. w; from = λ x w. w }

above_slot : (last : ℤ) (slots : List Slot) (k : ℕ) (d : Slot) → SlotsAbove last slots → k < length slots → IsSlot (get_or slots k d)
above_slot last [] k d above within = absurd (omega arith)
above_slot last (slot ∷ rest) zero d above within = above.0.slot
above_slot last (slot ∷ rest) (suc k) d above within = above_slot slot.offset rest k d above.1 (omega arith)

pub slot_at : (slots : List Slot) (k : ℕ) (d : Slot) → AreSlotParts slots → k < length slots → IsSlot (get_or slots k d)
slot_at slots k d are within = above_slot before_slots slots k d ((slots_tell slots).1 are) within

pub put_slot : (slots : List Slot) (old new : List (ℤ × Value)) (i : ℕ) (d : Slot) (key : ℤ) → AreSlotParts slots → i < length slots → key ≡ (entry_of (get_or slots i d)).0
    → old ≡ take i (map entry_of slots) → IsAscending new → value_at new key ≡ Some (get_or slots i d).value → ((other : ℤ) → other ≢ key → value_at new other ≡ value_at old other) → new ≡ take (i + 1) (map entry_of slots)
put_slot slots old new i d key are within key_is so_far ascending here others =
    let entry : ℤ × Value = entry_of (get_or slots i d) in
    let size = length-map slots entry_of in
    put_next (map entry_of slots) old new i entry are.slots.ascending (omega arith) (map_at entry_of slots i d entry within) so_far ascending
    (ap (value_at new) (sym key_is) ∙ here) (λ other apart. others other (λ same. apart (same ∙ key_is)))
