-- The parts of a state are in the grammar.
use Rattle.std.proofs.Common.{◌≡◌, ℕ, zero, suc, ◌-◌, ◌^◌, ◌<◌, ◌≤◌, ◌⊎◌, inl, inr, Bool, true, false, List, [], ◌∷◌, length, get_or, map, Option, Some, None, refl, sym, ap, subst, ◌∙◌, arith}
use Rattle.std.specs.Prelude.{ℤ, pos, negsuc, nat_lt, if◌then◌else◌, is_some}
use Rattle.std.specs.List.{All}
use Rattle.std.proofs.lemmas.Bool.Decides.{nat_tests}
use Rattle.std.proofs.lemmas.Int.{ints}
use Rattle.std.proofs.lemmas.List.{length-map, get_or_default}
use Rattle.vw_lattice.specs.Entries.{HasKey, value_at}
use Rattle.vw_names.specs.declared.spot.Spot.{Spot}
use Rattle.vw_names.specs.declared.spot.Spot.TheVariants as spots
use Rattle.vw_stack.specs.declared.offset.Offset.{Offset}
use Rattle.vw_stack.specs.declared.offset.Offset.TheVariants as offset
use Rattle.vw_values.specs.declared.value.Via.TheVariants.{At, Idx}
use Rattle.vw_values.specs.declared.value.Value.{Value}
use Rattle.vw_values.specs.declared.value.Value.TheVariants.{Any, Num, Const, Below, Low, Both, HeapBase, HeapAddr, Globals, Entry, Image, Index16, EntryPtr, EntryTyped, TagOf, TableFn, JumpOff, JumpDest}
use Rattle.vw_values.specs.Values.{IsValue, IsCount}
use Rattle.vw_domain.specs.declared.parts.Parts.{Parts}
use Rattle.vw_domain.specs.declared.parts.Fact.{Fact}
use Rattle.vw_domain.specs.declared.parts.Fact.TheVariants.{Unknown, Compare}
use Rattle.vw_domain.specs.declared.state_parts.Slot.{Slot}
use Rattle.vw_domain.specs.declared.state_parts.StateParts.{StateParts}
use Rattle.vw_domain.specs.Registers.{IsWithin, OffsetFits, register_at}
use Rattle.vw_domain.specs.State.{AreSlots, IsFact, narrow_key, wide_key}
use Rattle.vw_domain.specs.StateParts.{HasParts, IsPointState, named, offset_of}
use Rattle.vw_domain.specs.PartRanges.{AreFrameRanges, AreSlotParts, IsPointPlace}
use Rattle.vw_domain.proofs.PartChecks.{range_at, slot_at}
use Rattle.vw_domain.proofs.JoinedClasses.{point_places, range_of}
use Rattle.vw_report.specs.StateText.{known_value, register_mark, registers}
use Rattle.vw_report.specs.Items.{AllAre, AreFields, IsMaybe, Item}
use Rattle.vw_report.specs.NumberItems.{digits_of_hex, number}
use Rattle.vw_report.specs.Grammar.{after_probed, after_slots, class, classes, compared, fact, further, hex16, IsOffset, mark, offsets, parts, place, range, register, shown_value, signed, size, slot, slots, table, value, values, via, width, written}
use Rattle.vw_report.proofs.Marks.{known_at}

-- ---- numbers

word_low : (n : ℕ) → n < 2 ^ 64 → n < 16 ^ 16
word_low n h = omega arith

below_low : (k : ℕ) → (k ≤ 2 ^ 32) ⊎ (k ≡ 2 ^ 33) → k < 2 ^ 64
below_low k (inl h) = omega arith
below_low k (inr h) = omega arith

count_low : (k : ℕ) → IsCount k → k < 2 ^ 64
count_low k h = let high = h.1 in omega arith

tag_low : (g : ℕ) → g < 2 ^ 32 - 1 → g < 2 ^ 64
tag_low g h = omega arith

table_low : (t : ℕ) → t < 64 → (t < 2 ^ 64) × (nat_lt t (2 ^ 32) ≡ true)
table_low t h = (omega arith, grind (arith, nat_tests))

mark_table : (t : ℕ) → t ≡ 0 → t < 64
mark_table t h = omega arith

signed_is : (n : ℕ) (z : ℤ) → n ≤ 2 ^ 32 → IsWithin n z → IsOffset z
signed_is n (pos m) low within = let h = within.1 in omega (arith, ints)
signed_is n (negsuc m) low within = let h = within.0 in omega (arith, ints)

-- ---- values

value_is : (v : Value) → IsValue v → value.Is v
unfolding value via table mark hex16 digits_of_hex number register
value_is Any is = refl
value_is Num is = refl
value_is (Const c) is = (refl, word_low c is)
value_is (Below k) is = (refl, below_low k is.1)
value_is (Low k) is = (refl, (let h = is.1 in omega arith))
value_is (Both k) is = (refl, (let h = is.1 in omega arith))
value_is HeapBase is = refl
value_is HeapAddr is = refl
value_is Globals is = refl
value_is (Entry r) is = (refl, is)
value_is (Image a) is = (refl, word_low a is)
value_is (Index16 k None) is = (refl, (count_low k is.0, tt))
value_is (Index16 k (Some m)) is = (refl, (count_low k is.0, (table_low m.0 (mark_table m.0 is.1.0), tag_low m.1 is.1.1)))
value_is (EntryPtr t) is = (refl, table_low t is)
value_is (EntryTyped t g) is = (refl, (table_low t is.0, tag_low g is.1))
value_is (TagOf t (At r)) is = (refl, (table_low t is.0, (refl, is.1)))
value_is (TagOf t (Idx r)) is = (refl, (table_low t is.0, (refl, is.1)))
value_is (TableFn t g) is = (refl, (table_low t is.0, tag_low g is.1))
value_is (JumpOff a k) is = (refl, (word_low a is.0, count_low k is.1))
value_is (JumpDest a k) is = (refl, (word_low a is.0, count_low k is.1))

known_is : (v : Value) → IsValue v → IsMaybe shown_value (known_value v)
unfolding shown_value
known_is Any is = tt
known_is Num is = (value_is Num is, refl)
known_is (Const c) is = (value_is (Const c) is, refl)
known_is (Below k) is = (value_is (Below k) is, refl)
known_is (Low k) is = (value_is (Low k) is, refl)
known_is (Both k) is = (value_is (Both k) is, refl)
known_is HeapBase is = (value_is HeapBase is, refl)
known_is HeapAddr is = (value_is HeapAddr is, refl)
known_is Globals is = (value_is Globals is, refl)
known_is (Entry r) is = (value_is (Entry r) is, refl)
known_is (Image a) is = (value_is (Image a) is, refl)
known_is (Index16 k m) is = (value_is (Index16 k m) is, refl)
known_is (EntryPtr t) is = (value_is (EntryPtr t) is, refl)
known_is (EntryTyped t g) is = (value_is (EntryTyped t g) is, refl)
known_is (TagOf t w) is = (value_is (TagOf t w) is, refl)
known_is (TableFn t g) is = (value_is (TableFn t g) is, refl)
known_is (JumpOff a k) is = (value_is (JumpOff a k) is, refl)
known_is (JumpDest a k) is = (value_is (JumpDest a k) is, refl)

-- ---- lists

fields_are : {A : Type 0} (i : Item A) (ms : List (List ℕ)) (xs : List (Option A)) → length xs ≡ length ms → ((r : ℕ) → r < length xs → IsMaybe i (get_or xs r None)) → AreFields ms i xs
fields_are i [] [] same each = tt
fields_are i [] (x ∷ xs) same each = absurd (omega arith)
fields_are i (m ∷ ms) [] same each = absurd (omega arith)
fields_are i (m ∷ ms) (x ∷ xs) same each = (each 0 (omega arith), fields_are i ms xs (omega arith) (λ r inside. each (suc r) (omega arith)))

all_are : {A : Type 0} (i : Item A) (xs : List A) → ((k : ℕ) (d : A) → k < length xs → i.Is (get_or xs k d)) → AllAre i xs
all_are i [] each = tt
all_are i (x ∷ xs) each = (each 0 x (omega arith), all_are i xs (λ k d inside. each (suc k) d (omega arith)))

-- ---- the fields

offset_is : (o : Option ℤ) (c : Offset) (v : Value) → offset_of o ≡ c → OffsetFits c v → IsMaybe signed o
unfolding signed
offset_is None c v same fits = tt
offset_is (Some z) c v same fits = let known : OffsetFits (offset.Known z) v = subst (λ (x : Offset). OffsetFits x v) (sym same) fits in signed_is (2 ^ 31) z (omega arith) known.0

offsets_are : (s : Parts) (p : StateParts) → IsPointState s → HasParts s p → offsets.Is p.offsets
unfolding offsets
offsets_are s p point has =
    let size = has.offsets.length in
    fields_are signed (map (register_mark 111) registers) p.offsets size (λ r inside.
    offset_is (get_or p.offsets r None) (register_at s.registers r).offset (register_at s.registers r).value (has.offsets.each r (omega arith)) (point.state.registers.registers r).offset)

values_are : (s : Parts) (p : StateParts) → IsPointState s → HasParts s p → values.Is p.values
unfolding values
values_are s p point has =
    let size = has.values.length in
    let mapped : length (map known_value p.values) ≡ length p.values = length-map p.values known_value in (
      tt,
      fields_are shown_value (map (register_mark 118) registers) (map known_value p.values) (omega (arith, mapped, size)) (λ r inside.
          let v : Value = get_or p.values r Any in
          let low : r < length p.values = omega (arith, mapped) in
          let is : IsValue v = subst IsValue (sym (has.values.each r (omega arith))) (point.state.registers.registers r).value in
          let at : get_or (map known_value p.values) r None ≡ known_value v = get_or_default (map known_value p.values) r None (known_value v) (omega arith) ∙ known_at p.values r low in
          subst (λ (x : Option Value). IsMaybe shown_value x) (sym at) (known_is v is)),
    )

size_is : (n : ℕ) → (n ≡ 4) ⊎ (n ≡ 8) → size.Is n
unfolding size
size_is n (inl h) = rw h refl
size_is n (inr h) = rw h refl

slots_are : (slots_of : List Slot) → AreSlotParts slots_of → slots.Is slots_of
unfolding slots slot signed
slots_are list are = all_are slot list (λ k d inside.
    let is = slot_at list k d are inside in
    (tt, (signed_is (2 ^ 32) (get_or list k d).offset (omega arith) is.offset, (size_is (get_or list k d).size is.size, value_is (get_or list k d).value is.value))))

key_within : (slots : List (ℤ × Value)) (o : ℤ) (narrow : Bool) → AreSlots slots → HasKey slots (if narrow then narrow_key o else wide_key o) → IsWithin (2 ^ 32) o
key_within slots o true are has = let within = are.within (narrow_key o) has in let low = within.0 in let high = within.1 in (omega (arith, ints), omega (arith, ints))
key_within slots o false are has = let within = are.within (wide_key o) has in let low = within.0 in let high = within.1 in (omega (arith, ints), omega (arith, ints))

below_16 : (r : ℕ) → r < 17 → (r ≡ 16 → ⊥) → r < 16
below_16 r low other = omega arith

place_is : (slots : List (ℤ × Value)) (p : Spot) → AreSlots slots → IsPointPlace slots p → place.Is p
unfolding place register signed
place_is slots (spots.Reg r) are point = (refl, below_16 r point.place (λ same. point.other (ap spots.Reg same)))
place_is slots spots.Flags are point = refl
place_is slots (spots.Slot o) are point = (refl, signed_is (2 ^ 32) o (omega arith) (key_within slots o (is_some (value_at slots (narrow_key o))) are point.place))

class_is : (slots : List (ℤ × Value)) (c : List Spot) → AreSlots slots → 0 < length c → All (IsPointPlace slots) c → class.Is c
unfolding class further
class_is slots [] are some points = absurd (omega arith)
class_is slots (p ∷ ps) are some points = (tt, (place_is slots p are (points 0 p (omega arith)), all_are place ps (λ k d inside. place_is slots (get_or ps k d) are (points (suc k) d (omega arith)))))

classes_are : (s : Parts) (p : StateParts) → IsPointState s → HasParts s p → classes.Is p.classes
unfolding classes
classes_are s p point has = all_are class p.classes (λ k d inside.
    let names : List (List Spot) = map (map (named s.slots)) p.classes in
    let count = length-map p.classes (map (named s.slots)) in
    let several = (has.classes.each k (map (named s.slots) d) (omega arith)).several in
    let size = length-map (get_or p.classes k d) (named s.slots) in
    let at : get_or names k (map (named s.slots) d) ≡ map (named s.slots) (get_or p.classes k d) = map_item (map (named s.slots)) p.classes k d in
    class_is s.slots (get_or p.classes k d) point.state.slots (omega (arith, several, size, ap length at)) (point_places s p point has k d inside))
  where
    map_item : {A B : Type 0} (f : A → B) (xs : List A) (k : ℕ) (d : A) → get_or (map f xs) k (f d) ≡ f (get_or xs k d)
    map_item f [] k d = refl
    map_item f (x ∷ xs) zero d = refl
    map_item f (x ∷ xs) (suc k) d = map_item f xs k d

width_is : (w : ℕ) → (w ≡ 32) ⊎ (w ≡ 64) → width.Is w
unfolding width
width_is w (inl h) = rw h refl
width_is w (inr h) = rw h refl

fact_low : (w k : ℕ) → (w ≡ 32) ⊎ (w ≡ 64) → k < 2 ^ w → k < 2 ^ 64
fact_low w k (inl h) low = let less : k < 2 ^ 32 = subst (λ (n : ℕ). k < 2 ^ n) h low in omega arith
fact_low w k (inr h) low = subst (λ (n : ℕ). k < 2 ^ n) h low

fact_is : (f : Fact) → IsFact f → fact.Is f
unfolding fact compared number
fact_is Unknown is = (tt, tt)
fact_is (Compare w k) is = (tt, (width_is w is.0, fact_low w k is.0 is.1))

written_are : (ranges : List (ℤ × ℤ)) → AreFrameRanges ranges → written.Is ranges
unfolding written range signed
written_are ranges are = all_are range ranges (λ k d inside.
    let is = range_at ranges k d are inside in
    let first = is.behind in
    let filled = is.filled in
    let last = is.frame in
    (signed_is (2 ^ 32) (get_or ranges k d).0 (omega arith) (omega (arith, ints), omega (arith, ints)), signed_is (2 ^ 32) (get_or ranges k d).1 (omega arith) (omega (arith, ints), omega (arith, ints))))

pub parts_are : (s : Parts) (p : StateParts) → IsPointState s → HasParts s p → parts.Is p
unfolding parts after_probed after_slots number
parts_are s p point has =
    let in_range = range_of s p point has in
    let deep = in_range.probed in
    (tt, (omega arith, (offsets_are s p point has, (values_are s p point has, (slots_are p.slots in_range.slots, (classes_are s p point has, (fact_is p.fact in_range.fact, written_are p.written in_range.written)))))))
