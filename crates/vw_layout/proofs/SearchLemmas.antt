-- The place of a function by its entry, where the functions ascend.
use Rattle.std.proofs.Common.{◌≡◌, ℕ, ◌+◌, ◌<◌, ◌≤◌, ◌==◌, ◌||◌, Bool, true, false, not, cond, nat_lt, List, [], ◌∷◌, map, length, get_or, Some, None, is_some, refl, sym, ◌∙◌, arith, zero, suc, inl, inr}
use Rattle.std.proofs.lemmas.Bool.{cases_lt}
use Rattle.std.specs.List.{position, position_or_len, list_any}
use Rattle.std.proofs.lemmas.Bool.Decides.{nat_tests}
use Rattle.std.proofs.lemmas.List.{length-map, get_or-map, get_or_default}
use Rattle.vw_layout.specs.Spans.{Ascend}
use Rattle.vw_layout.specs.declared.functions.Function.{Function}
use Rattle.vw_layout.proofs.AddressLemmas.{Rises-at}

place_at : {X : Type 0} (p : X → Bool) (xs : List X) (i : ℕ) (d : X) → i < length xs → p (get_or xs i d) ≡ true → ((k : ℕ) → k < i → p (get_or xs k d) ≡ false) → position_or_len p xs ≡ i
place_at p [] i d inside here before = absurd (omega arith)
place_at p (x ∷ xs) zero d inside here before = rw here refl
place_at p (x ∷ xs) (suc i) d inside here before =
    let first : p x ≡ false = before 0 (omega arith) in
    let rest : position_or_len p xs ≡ i = place_at p xs i d (omega arith) here (λ k below. before (suc k) (omega (arith, below))) in
    rw first (omega (arith, rest))

place_none : {X : Type 0} (p : X → Bool) (xs : List X) (d : X) → ((k : ℕ) → k < length xs → p (get_or xs k d) ≡ false) → position_or_len p xs ≡ length xs
place_none p [] d none = refl
place_none p (x ∷ xs) d none =
    let first : p x ≡ false = none 0 (omega arith) in
    let rest : position_or_len p xs ≡ length xs = place_none p xs d (λ k below. none (suc k) (omega (arith, below))) in
    rw first (omega (arith, rest))

position_at : {X : Type 0} (p : X → Bool) (xs : List X) (i : ℕ) (d : X) → i < length xs → p (get_or xs i d) ≡ true → ((k : ℕ) → k < i → p (get_or xs k d) ≡ false) → position p xs ≡ Some i
position_at p xs i d inside here before =
    let place : position_or_len p xs ≡ i = place_at p xs i d inside here before in
    let test : nat_lt i (length xs) ≡ true = grind (arith, nat_tests, inside) in
    rw (place, test) refl

position_past : {X : Type 0} (p : X → Bool) (xs : List X) (d : X) → ((k : ℕ) → k < length xs → p (get_or xs k d) ≡ false) → position p xs ≡ None
position_past p xs d none =
    let place : position_or_len p xs ≡ length xs = place_none p xs d none in
    let test : nat_lt (length xs) (length xs) ≡ false = grind (arith, nat_tests) in
    rw (place, test) refl

pub entries_ordered : (xs : List Function) (i j : ℕ) (d : Function) → Ascend xs → i < j → j < length xs → (get_or xs i d).entry < (get_or xs j d).entry
entries_ordered xs i j d rises before inside =
    let f : Function → ℕ = λ g. g.entry in
    let within : i < length xs = omega arith in
    let first : get_or (map f xs) i 0 ≡ (get_or xs i d).entry = get_or-map f xs i d 0 within in
    let second : get_or (map f xs) j 0 ≡ (get_or xs j d).entry = get_or-map f xs j d 0 inside in
    let count : length (map f xs) ≡ length xs = length-map xs f in
    let past : j < length (map f xs) = omega (arith, count) in
    let above = Rises-at 0 (map f xs) i j rises before past in
    omega (arith, above, first, second)

equal_entry : (f : Function) (address : ℕ) → f.entry ≡ address → (f.entry == address) ≡ true
equal_entry f address same = grind (arith, nat_tests)

below_entry : (f : Function) (address : ℕ) → f.entry < address → (f.entry == address) ≡ false
below_entry f address low = grind (arith, nat_tests)

above_entry : (f : Function) (address : ℕ) → address < f.entry → (f.entry == address) ≡ false
above_entry f address high = grind (arith, nat_tests)

pub position_found : (xs : List Function) (i address : ℕ) (d : Function) → Ascend xs → i < length xs → (get_or xs i d).entry ≡ address → position (λ f. f.entry == address) xs ≡ Some i
position_found xs i address d rises inside same =
    position_at (λ f. f.entry == address) xs i d inside (equal_entry (get_or xs i d) address same) (λ k below. below_entry (get_or xs k d) address (omega (arith, entries_ordered xs k i d rises below inside, same)))

not_there : (xs : List Function) (low high address : ℕ) (d : Function) → high ≤ low → ((k : ℕ) (d : Function) → k < low → (get_or xs k d).entry < address) → ((k : ℕ) (d : Function) → high ≤ k → k < length xs → address < (get_or xs k d).entry) → (k : ℕ) → k < length xs → ((get_or xs k d).entry == address) ≡ false
not_there xs low high address d met below above k inside =
    elim (cases_lt k low) [
      | inl left ↦ below_entry (get_or xs k d) address (below k d left)
      | inr right ↦ above_entry (get_or xs k d) address (above k d (omega arith) inside)
    ]

pub position_missed : (xs : List Function) (low high address : ℕ) → high ≤ low → ((k : ℕ) (d : Function) → k < low → (get_or xs k d).entry < address) → ((k : ℕ) (d : Function) → high ≤ k → k < length xs → address < (get_or xs k d).entry) → position (λ f. f.entry == address) xs ≡ None
position_missed xs low high address met below above =
    let blank : Function = record { entry = 0; size = 0; name = [] } in
    position_past (λ f. f.entry == address) xs blank (not_there xs low high address blank met below above)

-- the halves of a search
pub lower_half : (xs : List Function) (middle address : ℕ) (e : Function) → Ascend xs → middle < length xs → (get_or xs middle e).entry < address → (k : ℕ) (d : Function) → k < middle + 1 → (get_or xs k d).entry < address
lower_half xs middle address e rises inside low k d within =
    let same = get_or_default xs middle d e inside in
    let here : (get_or xs middle d).entry < address = rw same low in
    elim (cases_lt k middle) [
      | inl left ↦ omega (arith, entries_ordered xs k middle d rises left inside, here)
      | inr right ↦
          let at : k ≡ middle = omega arith in
          rw at here
    ]

pub upper_half : (xs : List Function) (middle address : ℕ) (e : Function) → Ascend xs → middle < length xs → address < (get_or xs middle e).entry → (k : ℕ) (d : Function) → middle ≤ k → k < length xs → address < (get_or xs k d).entry
upper_half xs middle address e rises inside high k d from within =
    let same = get_or_default xs middle d e inside in
    let here : address < (get_or xs middle d).entry = rw same high in
    elim (cases_lt middle k) [
      | inl right ↦ omega (arith, entries_ordered xs middle k d rises right within, here)
      | inr left ↦
          let at : k ≡ middle = omega arith in
          rw at here
    ]

any_step : (passes : Bool) (n : ℕ) (rest : Bool) (length : ℕ) → rest ≡ nat_lt n length → (passes || rest) ≡ nat_lt (cond (not passes) (1 + n) 0) (suc length)
any_step true n rest length is = sym (grind (arith, nat_tests))
any_step false n rest length is = is ∙ grind (arith, nat_tests)

any_place : {X : Type 0} (p : X → Bool) (xs : List X) → list_any p xs ≡ nat_lt (position_or_len p xs) (length xs)
any_place p [] = refl
any_place p (x ∷ xs) = any_step (p x) (position_or_len p xs) (list_any p xs) (length xs) (any_place p xs)

some_step : (n : ℕ) (passes : Bool) → is_some (cond passes (Some n) None) ≡ passes
some_step n true = refl
some_step n false = refl

-- there is a place where some item passes
pub position_some : {X : Type 0} (p : X → Bool) (xs : List X) → is_some (position p xs) ≡ list_any p xs
position_some p xs = some_step (position_or_len p xs) (nat_lt (position_or_len p xs) (length xs)) ∙ sym (any_place p xs)
