-- The parts of a state as lists, which are built item by item.
use Rattle.std.proofs.Common.{◌≡◌, ◌⊎◌, ℕ, zero, suc, ◌+◌, ◌^◌, ◌<◌, ◌≤◌, List, [], ◌∷◌, ◌++◌, length, get_or, take, map, refl, sym, ap, subst, ◌∙◌, arith, inl, inr, Some, None, Bool, true, false, is_some, below_more}
use Rattle.std.proofs.lemmas.Bool.{cases_lt, cases_eq}
use Rattle.std.proofs.lemmas.Int.{ints}
use Rattle.std.proofs.lemmas.List.{get_or_default, get_or_append_left, get_or_push, length_push, take_more, map-append}
use Rattle.std.specs.Prelude.{ℤ, pos, negsuc, ◌+ℤ◌, ◌-ℤ◌, ◌≤ℤ◌, Option, slice_get, if◌then◌else◌}
use Rattle.std.specs.List.{All}
use Rattle.vw_lattice.specs.Entries.{value_at, HasKey}
use Rattle.vw_locals.specs.Ranges.{is_written, IsRanges}
use Rattle.vw_locals.specs.RangeOrder.{written_here, written_there, ranges_tail, filled_head}
use Rattle.vw_names.specs.declared.spot.Spot.{Spot}
use Rattle.vw_names.specs.declared.spot.Spot.TheVariants.{Reg, Flags, Slot}
use Rattle.vw_names.specs.Division.{Same}
use Rattle.vw_names.specs.Groups.{Has, first_place, IsGroup, AreGroups}
use Rattle.vw_names.specs.Spot.{number, slot_number}
use Rattle.vw_values.specs.declared.value.Value.{Value}
use Rattle.vw_values.specs.declared.value.Value.TheVariants.{Any}
use Rattle.vw_domain.specs.declared.parts.Parts.{Parts}
use Rattle.vw_domain.specs.declared.registers.Register.{Register}
use Rattle.vw_domain.specs.Registers.{register_at}
use Rattle.vw_domain.specs.State.{AreSlots, IsInFrame, IsState, IsThere, key_of, wide_key, narrow_key}
use Rattle.vw_domain.specs.Abstract.{slot_key}
use Rattle.vw_domain.specs.declared.state_parts.Slot.{Slot as Part}
use Rattle.vw_domain.specs.declared.state_parts.StateParts.{StateParts}
use Rattle.vw_domain.specs.StateParts.{AreOffsets, AreValues, IsPlace, IsPlaceOf, ArePlacesOf, AreClassesOf, HasSize, HasParts, named, entry_of}

-- ---- lists with one item more

pub all_push : {X : Type 0} (P : X → Type 0) (xs : List X) (x : X) → All P xs → P x → All P (xs ++ x ∷ [])
all_push P xs x all here = λ k d within.
    let size = length_push xs x in
    elim (cases_lt k (length xs)) [
      | inl front ↦ subst P (sym (get_or_append_left xs (x ∷ []) d k front)) (all k d front)
      | inr back ↦ subst P (sym (get_or_push xs x d k (omega arith))) here
    ]

pub values_push : (n : ℕ) (row : List Register) (values : List Value) (v : Value) → AreValues n row values → v ≡ (register_at row n).value → AreValues (n + 1) row (values ++ v ∷ [])
values_push n row values v so_far is = record {
  length = length_push values v ∙ ap (λ (m : ℕ). m + 1) so_far.length;
  each = below_more _ _
      (λ r h. get_or_append_left values (v ∷ []) Any r (subst (λ (m : ℕ). r < m) (sym so_far.length) h) ∙ so_far.each r h)
      (get_or_push values v Any n so_far.length ∙ is);
}

pub all_front : {X : Type 0} (P : X → Type 0) (xs : List X) (x : X) → All P (xs ++ x ∷ []) → All P xs
all_front P xs x all = λ k d within.
    let size = length_push xs x in
    subst P (get_or_append_left xs (x ∷ []) d k within) (all k d (omega arith))

pub all_last : {X : Type 0} (P : X → Type 0) (xs : List X) (x : X) → All P (xs ++ x ∷ []) → P x
all_last P xs x all =
    let size = length_push xs x in
    subst P (get_or_push xs x x (length xs) refl) (all (length xs) x (omega arith))

pub take_step : {X : Type 0} (xs : List X) (i : ℕ) (x : X) → i < length xs → ((d : X) → get_or xs i d ≡ x) → take (i + 1) xs ≡ take i xs ++ x ∷ []
take_step {X} xs i x within is =
    let push : X → List X = λ y. take i xs ++ y ∷ [] in
    take_more xs i x within ∙ ap push (is x)

-- what a function takes an item of a list to stands at its place in the list of images
pub map_at : {X Y : Type 0} (f : Y → X) (ys : List Y) (k : ℕ) (d : Y) (x : X) → k < length ys → get_or (map f ys) k x ≡ f (get_or ys k d)
map_at f [] k d x within = absurd (omega arith)
map_at f (y ∷ ys) zero d x within = refl
map_at f (y ∷ ys) (suc k) d x within = map_at f ys k d x (omega arith)

-- the item that was found
pub record IsItem {X : Type 0} (xs : List X) (i : ℕ) (x : X) : Type 0 where
  pub within : i < length xs
  pub is : (d : X) → get_or xs i d ≡ x

pub item_at : {X : Type 0} (xs : List X) (i : ℕ) (x : X) → slice_get xs i ≡ Some x → IsItem xs i x
item_at [] i x found = absurd (cc)
item_at (y ∷ rest) zero x found =
    let same : y ≡ x = cc in
    record { within = omega arith; is = λ d. same }
item_at (y ∷ rest) (suc i) x found =
    let e = item_at rest i x found in
    let within = e.within in
    record { within = omega arith; is = e.is }

-- ---- ranges

-- the first offset of a range is written
pub first_written : (ranges : List (ℤ × ℤ)) (d : ℤ × ℤ) (k : ℕ) → IsRanges ranges → k < length ranges → is_written ranges (get_or ranges k d).0 ≡ true
first_written [] d k are within = absurd (omega arith)
first_written (range ∷ rest) d zero are within =
    let filled = filled_head range rest are in
    written_here range rest range.0 (record { low = omega (arith, ints); high = filled })
first_written (range ∷ rest) d (suc k) are within = written_there range rest (get_or rest k d).0 (first_written rest d k (ranges_tail range rest are) (omega arith))

-- range k begins at least k above the first one
spread : (ranges : List (ℤ × ℤ)) (d : ℤ × ℤ) → IsRanges ranges → (k : ℕ) → k < length ranges → ((get_or ranges 0 d).0 +ℤ pos k) ≤ℤ (get_or ranges k d).0
spread ranges d are zero within = omega (arith, ints)
spread ranges d are (suc k) within =
    let before = spread ranges d are k (omega arith) in
    let filled = are.filled k d (omega arith) in
    let next = are.apart k (suc k) d (omega arith) within in
    omega (arith, ints)

-- so there are no more ranges than offsets
pub few_ranges : (ranges : List (ℤ × ℤ)) (d : ℤ × ℤ) → IsRanges ranges → IsInFrame ranges → length ranges ≤ 2 ^ 32
few_ranges [] d are frame = omega arith
few_ranges (range ∷ rest) d are frame =
    let ranges : List (ℤ × ℤ) = range ∷ rest in
    let far = spread ranges d are (length rest) (omega arith) in
    let first = (frame (get_or ranges 0 d).0 (first_written ranges d 0 are (omega arith))).0 in
    let last = (frame (get_or ranges (length rest) d).0 (first_written ranges d (length rest) are (omega arith))).1 in
    omega (arith, ints)

-- ---- places

none_or_some : (x : Option Value) → (is_some x ≡ false) ⊎ ((v : Value) × (x ≡ Some v))
none_or_some None = inl refl
none_or_some (Some v) = inr (v, refl)

-- the slot at the offset that a key has stands under that key
pub slot_key_is : (slots : List (ℤ × Value)) (key o : ℤ) → AreSlots slots → HasKey slots key → (key ≡ wide_key o) ⊎ (key ≡ narrow_key o) → slot_key slots o ≡ key
slot_key_is slots key o are has is =
    let chosen : Bool → ℤ = λ b. if b then narrow_key o else wide_key o in
    let Has : ℤ → Type 0 = λ k. HasKey slots k in
    elim is [
      | inl wide ↦ elim (none_or_some (value_at slots (narrow_key o))) [
        | inl none ↦ ap chosen none ∙ sym wide
        | inr some ↦ absurd (are.apart o (subst Has wide has) some)
      ]
      | inr narrow ↦
          let there : HasKey slots (narrow_key o) = subst Has narrow has in
          ap chosen (ap is_some there.1) ∙ sym narrow
    ]

-- the key that a place's number tells
pub key_back : (key : ℤ) → (pos 0 -ℤ pos (2 ^ 63)) ≤ℤ key → key_of (slot_number key) ≡ key
key_back (pos n) within = omega (arith, ints)
key_back (negsuc n) within = omega (arith, ints)

pub far_number : (key : ℤ) → (pos 0 -ℤ pos (2 ^ 63)) ≤ℤ key → 257 ≤ slot_number key
far_number (pos n) within = omega arith
far_number (negsuc n) within = omega (arith, ints)

pub register_there : (slots : List (ℤ × Value)) (r : ℕ) → r < 256 → AreSlots slots → IsThere slots r → r < 17
register_there slots r fits are there = elim there [
  | inl near ↦ elim near [
    | inl less ↦ less
    | inr flags ↦ absurd (omega arith)
  ]
  | inr has ↦ let low = (are.within (key_of r) has).0 in absurd (omega (arith, ints))
]

pub slot_there : (slots : List (ℤ × Value)) (key : ℤ) → (pos 0 -ℤ pos (2 ^ 63)) ≤ℤ key → AreSlots slots → IsThere slots (slot_number key) → HasKey slots key
slot_there slots key low are there =
    let far = far_number key low in
    elim there [
      | inl near ↦ absurd (elim near [ inl less ↦ omega arith | inr flags ↦ omega arith ])
      | inr has ↦ subst (λ (k : ℤ). HasKey slots k) (key_back key low) has
    ]

pub place_of_register : (r : ℕ) → r < 256 → IsPlaceOf (Reg r) (Reg r)
place_of_register r fits = λ slots are there. (refl, register_there slots r fits are there)

pub place_of_flags : IsPlaceOf Flags Flags
place_of_flags = λ slots are there. (refl, tt)

pub place_of_slot : (key o : ℤ) → (pos 0 -ℤ pos (2 ^ 63)) ≤ℤ key → (key ≡ wide_key o) ⊎ (key ≡ narrow_key o) → IsPlaceOf (Slot key) (Slot o)
place_of_slot key o low is = λ slots are there.
    let has = slot_there slots key low are there in
    let same = slot_key_is slots key o are has is in
    (ap Slot same, subst (λ (k : ℤ). HasKey slots k) (sym same) has)

-- ---- classes

-- a list of items that a function takes to others, with one more of each
push_both : {X Y : Type 0} (f : Y → X) (P : Y → Type 0) (Q : X → Type 0) (xs : List X) (ys : List Y) (x : X) (y : Y) → (All Q xs → (map f ys ≡ xs) × All P ys) → (Q x → (f y ≡ x) × P y) → All Q (xs ++ x ∷ []) → (map f (ys ++ y ∷ []) ≡ xs ++ x ∷ []) × All P (ys ++ y ∷ [])
push_both {X} f P Q xs ys x y before here all =
    let a = before (all_front Q xs x all) in
    let b = here (all_last Q xs x all) in
    let front : List X → List X = λ l. l ++ f y ∷ [] in
    let last : X → List X = λ z. xs ++ z ∷ [] in
    (map-append f ys (y ∷ []) ∙ ap front a.0 ∙ ap last b.0, all_push P ys y a.1 b.1)

pub places_step : (names places new : List Spot) (i : ℕ) (name place : Spot) → i < length names → ((d : Spot) → get_or names i d ≡ name) → new ≡ places ++ place ∷ [] → IsPlaceOf name place → ArePlacesOf (take i names) places → ArePlacesOf (take (i + 1) names) new
places_step names places new i name place within is pushed here before =
    let P : List Spot → Type 0 = λ xs. ArePlacesOf xs new in
    let Q : List Spot → Type 0 = λ ys. ArePlacesOf (take i names ++ name ∷ []) ys in
    subst P (sym (take_step names i name within is)) (subst Q (sym pushed) (λ slots are.
    push_both (named slots) (IsPlace slots) (λ (n : Spot). IsThere slots (number n)) (take i names) places name place (before slots are) (here slots are)))

pub classes_step : (names classes new : List (List Spot)) (i : ℕ) (group class : List Spot) → i < length names → ((d : List Spot) → get_or names i d ≡ group) → new ≡ classes ++ class ∷ [] → ArePlacesOf group class → AreClassesOf (take i names) classes → AreClassesOf (take (i + 1) names) new
classes_step names classes new i group class within is pushed here before =
    let P : List (List Spot) → Type 0 = λ xs. AreClassesOf xs new in
    let Q : List (List Spot) → Type 0 = λ ys. AreClassesOf (take i names ++ group ∷ []) ys in
    subst P (sym (take_step names i group within is)) (subst Q (sym pushed) (λ slots are.
    push_both (map (named slots)) (λ (c : List Spot). All (IsPlace slots) c) (λ (g : List Spot). All (λ (n : Spot). IsThere slots (number n)) g) (take i names) classes group class (before slots are) (here slots are)))

pub has_at : (group : List Spot) (k : ℕ) (d : Spot) → k < length group → Has group (number (get_or group k d))
has_at group k d within = (k, get_or group k d, within, get_or_default group k (get_or group k d) d within, refl)

pub first_is : (group : List Spot) (d : Spot) → 0 < length group → first_place group ≡ number (get_or group 0 d)
first_is [] d some = absurd (omega arith)
first_is (spot ∷ rest) d some = refl

-- the places of a class are there
place_there : (s : Parts) (group : List Spot) → IsState s → IsGroup s.classes group → All (λ name. IsThere s.slots (number name)) group
place_there s group is one = λ k d within.
    let a : ℕ = number (get_or group k d) in
    let second : ℕ = number (get_or group 1 d) in
    let several = one.several in
    let first = first_is group d (omega arith) in
    let less = one.ascending 0 1 d (omega arith) (omega arith) in
    let here : Same s.classes a (first_place group) = (one.whole a).0 (has_at group k d within) in
    let there : Same s.classes second (first_place group) = (one.whole second).0 (has_at group 1 d (omega arith)) in
    elim (cases_eq a second) [
      | inl same ↦ is.named a (first_place group) here (λ is_first. omega arith)
      | inr apart ↦ is.named a second (here ∙ sym there) apart
    ]

pub groups_there : (s : Parts) (groups : List (List Spot)) → IsState s → AreGroups s.classes groups → All (λ group. All (λ name. IsThere s.slots (number name)) group) groups
groups_there s groups is are = λ i g within. place_there s (get_or groups i g) is (are.each i g within)

-- ---- slots

pub entries_push : (slots : List (ℤ × Value)) (list new : List Part) (i : ℕ) (slot : Part) (entry : ℤ × Value) → IsItem slots i entry → entry_of slot ≡ entry → new ≡ list ++ slot ∷ [] → map entry_of list ≡ take i slots → map entry_of new ≡ take (i + 1) slots
entries_push slots list new i slot entry item is pushed before =
    let front : List (ℤ × Value) → List (ℤ × Value) = λ l. l ++ entry_of slot ∷ [] in
    let last : ℤ × Value → List (ℤ × Value) = λ e. take i slots ++ e ∷ [] in
    ap (map entry_of) pushed ∙ map-append entry_of list (slot ∷ []) ∙ ap front before ∙ ap last is ∙ sym (take_step slots i entry item.within item.is)

-- ---- the state

pub has_parts : (s : Parts) (p : StateParts) (names : List (List Spot)) → IsState s → AreOffsets 16 s.registers p.offsets → AreValues 16 s.registers p.values → p.probed ≡ s.probed → p.written ≡ s.written → All HasSize p.slots → map entry_of p.slots ≡ s.slots → AreGroups s.classes names → AreClassesOf names p.classes → p.fact ≡ s.fact → HasParts s p
has_parts s p names is offsets values probed written sizes slots groups classes fact =
    let both = classes s.slots is.slots (groups_there s names is groups) in
    record {
      offsets = offsets;
      values = values;
      probed = probed;
      written = written;
      sizes = sizes;
      slots = slots;
      there = both.1;
      classes = subst (λ (xs : List (List Spot)). AreGroups s.classes xs) (sym both.0) groups;
      fact = fact;
    }
