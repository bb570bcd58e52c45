-- The entries of the slots, one by one.
use mir.Val.{SFits}
use Rattle.std.proofs.Common.{w64, rules, ◌≡◌, ◌∙◌, ap, ℕ, zero, suc, ◌+◌, ◌^◌, ◌<◌, ◌≤◌, List, [], ◌∷◌, length, get_or, sym, subst, arith, below_more, Some}
use Rattle.std.proofs.lemmas.Int.{ints}
use Rattle.std.specs.Prelude.{ℤ, pos, ◌+ℤ◌, ◌-ℤ◌, ◌<ℤ◌, ◌≤ℤ◌, slice_get}
use Rattle.vw_lattice.specs.Entries.{IsAscending, HasKey}
use Rattle.vw_lattice.specs.EntryOrder.{value_at_index, index_of}
use Rattle.vw_values.specs.declared.value.Value.{Value}
use Rattle.vw_values.specs.Values.{IsAmong}
use Rattle.vw_domain.specs.State.{AreSlots, AreSlotsAmong}

-- the key at place k is at least k above the first one
spread : (slots : List (ℤ × Value)) (d : ℤ × Value) → IsAscending slots → (k : ℕ) → k < length slots → ((get_or slots 0 d).0 +ℤ pos k) ≤ℤ (get_or slots k d).0
spread slots d ascends zero within = omega (arith, ints)
spread slots d ascends (suc k) within =
    let before = spread slots d ascends k (omega arith) in
    let next : (get_or slots k d).0 <ℤ (get_or slots (suc k) d).0 = ascends k (suc k) d (omega arith) within in
    omega (arith, ints)

key_there : (slots : List (ℤ × Value)) (d : ℤ × Value) → AreSlots slots → (k : ℕ) → k < length slots → HasKey slots (get_or slots k d).0
key_there slots d are k within = ((get_or slots k d).1, value_at_index slots k d are.ascending within)

-- so there are no more slots than keys
pub few_slots : (slots : List (ℤ × Value)) (d : ℤ × Value) → AreSlots slots → length slots ≤ 2 ^ 35
few_slots [] d are = omega arith
few_slots (slot ∷ rest) d are =
    let slots : List (ℤ × Value) = slot ∷ rest in
    let far = spread slots d are.ascending (length rest) (omega arith) in
    let first = (are.within (get_or slots 0 d).0 (key_there slots d are 0 (omega arith))).0 in
    let last = (are.within (get_or slots (length rest) d).0 (key_there slots d are (length rest) (omega arith))).1 in
    omega (arith, ints)

pub all_among : (bounds : List ℕ) (slots : List (ℤ × Value)) → ((d : ℤ × Value) (k : ℕ) → k < length slots → IsAmong bounds (get_or slots k d).1) → AreSlotsAmong bounds slots
all_among bounds slots among key value found =
    let at = index_of slots key value found in
    let P : Value → Type 0 = λ v. IsAmong bounds v in
    subst P (at.2 (key, value)).1 (among (key, value) at.0 at.1)

pub each_among : (bounds : List ℕ) (slots : List (ℤ × Value)) (d : ℤ × Value) (k : ℕ) → AreSlots slots → k < length slots → AreSlotsAmong bounds slots → IsAmong bounds (get_or slots k d).1
each_among bounds slots d k are within among = among (get_or slots k d).0 (get_or slots k d).1 (value_at_index slots k d are.ascending within)

-- an entry that is there
pub record IsEntry (slots : List (ℤ × Value)) (i : ℕ) (entry : ℤ × Value) : Type 0 where
  pub within : i < length slots
  pub is : (d : ℤ × Value) → get_or slots i d ≡ entry

pub entry_at : (slots : List (ℤ × Value)) (i : ℕ) (entry : ℤ × Value) → slice_get slots i ≡ Some entry → IsEntry slots i entry
entry_at [] i entry found = absurd (cc)
entry_at (slot ∷ rest) zero entry found =
    let same : slot ≡ entry = cc in
    record { within = omega arith; is = λ d. same }
entry_at (slot ∷ rest) (suc i) entry found =
    let e = entry_at rest i entry found in
    let within = e.within in
    record { within = omega arith; is = e.is }

-- the tests of the entries so far, and of one more
pub among_step : (bounds : List ℕ) (slots : List (ℤ × Value)) (i : ℕ) (key : ℤ) (value : Value) (d : ℤ × Value) → slice_get slots i ≡ Some (key, value) → IsAmong bounds value → ((k : ℕ) → k < i → IsAmong bounds (get_or slots k d).1) → (k : ℕ) → k < i + 1 → IsAmong bounds (get_or slots k d).1
among_step bounds slots i key value d found here before =
    let P : ℤ × Value → Type 0 = λ e. IsAmong bounds e.1 in
    below_more _ _ before (subst P (sym ((entry_at slots i (key, value) found).is d)) here)

pub not_among : (bounds : List ℕ) (slots : List (ℤ × Value)) (i : ℕ) (key : ℤ) (value : Value) → AreSlots slots → slice_get slots i ≡ Some (key, value) → AreSlotsAmong bounds slots → IsAmong bounds value
not_among bounds slots i key value are found among =
    let e = entry_at slots i (key, value) found in
    let P : ℤ × Value → Type 0 = λ e. IsAmong bounds e.1 in
    subst P (e.is (key, value)) (each_among bounds slots (key, value) i are e.within among)

pub key_within : (slots : List (ℤ × Value)) (i : ℕ) (key : ℤ) (value : Value) → AreSlots slots → slice_get slots i ≡ Some (key, value) → ((pos 0 -ℤ pos (2 ^ 33)) ≤ℤ key) × (key ≤ℤ pos (2 ^ 33 + 1))
key_within slots i key value are found =
    let e = entry_at slots i (key, value) found in
    let P : ℤ × Value → Type 0 = λ x. ((pos 0 -ℤ pos (2 ^ 33)) ≤ℤ x.0) × (x.0 ≤ℤ pos (2 ^ 33 + 1)) in
    subst P (e.is (key, value)) (are.within (get_or slots i (key, value)).0 (key_there slots (key, value) are i e.within))

-- and so a number of 64 bits
pub key_fits : (key : ℤ) → (pos 0 -ℤ pos (2 ^ 33)) ≤ℤ key → key ≤ℤ pos (2 ^ 33 + 1) → SFits w64 key
key_fits key low high = first_of (search rules, omega (arith, ints), grind (arith, ints))

-- what one number reads of equal slots
some_same : (p q : ℤ × Value) → Some p ≡ Some q → p ≡ q
some_same p q e = cc

pub entries_same : (slots other : List (ℤ × Value)) (i : ℕ) (key at : ℤ) (value same : Value) → slots ≡ other → slice_get slots i ≡ Some (key, value) → slice_get other i ≡ Some (at, same) → ◌≡◌ {A = ℤ × Value} (key, value) (at, same)
entries_same slots other i key at value same are there here =
    some_same (key, value) (at, same) (sym there ∙ (ap (λ (xs : List (ℤ × Value)). slice_get xs i) are ∙ here))

pub same_entry : (key at : ℤ) (value same : Value) → key ≡ at → value ≡ same → ◌≡◌ {A = ℤ × Value} (key, value) (at, same)
same_entry key at value same keys values = ap (λ (k : ℤ). (k, value)) keys ∙ ap (λ (v : Value). (at, v)) values
