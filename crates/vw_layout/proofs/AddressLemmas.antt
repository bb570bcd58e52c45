-- The addresses of symbols, in order, and the first symbol at each.
use Rattle.std.proofs.Common.{◌≡◌, ℕ, ◌+◌, ◌<◌, ◌≤◌, ◌==◌, ◌||◌, List, [], ◌∷◌, ◌++◌, map, length, get_or, Bool, true, false, not, cond, nat_lt, Option, Some, None, All, inl, inr, refl, sym, ap, ◌∙◌, subst, arith, unwrap_or, zero, suc, Ordering}
use Rattle.std.specs.List.{find, filter_map, list_any, fold}
use Rattle.std.specs.Option.{option_or, option_map_or}
use Rattle.std.specs.Ordering.{nat_cmp, match_ordering}
use Rattle.std.specs.Map.{keys_of}
use Rattle.std.specs.BTreeMap.{insert_entry, is_at}
use Rattle.std.specs.BTreeSet.{insert_key}
use Rattle.std.proofs.lemmas.Bool.{false≢true}
use Rattle.std.proofs.lemmas.Bool.Decides.{nat_tests, eqb_tells}
use Rattle.std.proofs.lemmas.List.{map-append}
use Rattle.std.proofs.lemmas.List.Sums.{fold-append}
use Rattle.std.proofs.lemmas.List.Folds.{find-append}
use Rattle.std.proofs.lemmas.List.Elements.{All-nil, All-cons}
use Rattle.vw_bits.proofs.ListLemmas.{find_holds}
use Rattle.vw_layout.specs.Bounds.{Rises}
use Rattle.vw_layout.specs.Functions.{first_at, placed, ascending, addresses_of, by_address, is_resized}
use Rattle.vw_layout.specs.declared.symbols.SymbolEntry.{SymbolEntry}

-- numbers in a set
by_order : {X : Type 0} (less same : Bool) (a b c : X) → match_ordering (cond less Ordering.Less (cond same Ordering.Equal Ordering.Greater)) a b c ≡ cond less a (cond same b c)
by_order true same a b c = refl
by_order false true a b c = refl
by_order false false a b c = refl

pub key_placed : (ns : List ℕ) (n : ℕ) → insert_key nat_cmp ns n ≡ placed ns n
key_placed [] n = refl
key_placed (m ∷ ms) n =
    rw (by_order (nat_lt n m) (n == m) (n ∷ m ∷ ms) (m ∷ ms) (m ∷ insert_key nat_cmp ms n), key_placed ms n) refl

keys_step : {X : Type 0} (less same : Bool) (n m : ℕ) (v w : X) (es ds : List (ℕ × X)) (ks : List ℕ) → keys_of ds ≡ ks → keys_of (match_ordering (cond less Ordering.Less (cond same Ordering.Equal Ordering.Greater)) ((n, v) ∷ (m, w) ∷ es) ((m, v) ∷ es) ((m, w) ∷ ds)) ≡ cond less (n ∷ m ∷ keys_of es) (cond same (m ∷ keys_of es) (m ∷ ks))
keys_step true same n m v w es ds ks is = refl
keys_step false true n m v w es ds ks is = refl
keys_step false false n m v w es ds ks is = rw is refl

-- the keys of a map
pub entry_placed : {X : Type 0} (es : List (ℕ × X)) (n : ℕ) (v : X) → keys_of (insert_entry nat_cmp es n v) ≡ placed (keys_of es) n
entry_placed [] n v = refl
entry_placed ((m, w) ∷ es) n v = keys_step (nat_lt n m) (n == m) n m v w es (insert_entry nat_cmp es n v) (placed (keys_of es) n) (entry_placed es n v)

pub addresses-more : (xs : List SymbolEntry) (x : SymbolEntry) → addresses_of (xs ++ x ∷ []) ≡ placed (addresses_of xs) x.symbol.value
unfolding addresses_of ascending
addresses-more xs x = rw (map-append, fold-append) refl

pub addresses-none : addresses_of [] ≡ []
unfolding addresses_of ascending
addresses-none = refl

-- membership
placed_step : (n m q : ℕ) (less same rest grown : Bool) → nat_lt n m ≡ less → (n == m) ≡ same → grown ≡ (rest || (n == q)) → (ms ns : List ℕ) → list_any (λ k. k == q) ms ≡ rest → list_any (λ k. k == q) ns ≡ grown → list_any (λ k. k == q) (cond less (n ∷ m ∷ ms) (cond same (m ∷ ms) (m ∷ ns))) ≡ ((m == q) || rest || (n == q))
placed_step n m q true same rest grown less is all ms ns here there = rw here (shuffle (n == q) (m == q) rest)
  where
    shuffle : (a b c : Bool) → (a || (b || c)) ≡ (b || c || a)
    shuffle true true c = refl
    shuffle true false true = refl
    shuffle true false false = refl
    shuffle false true c = refl
    shuffle false false true = refl
    shuffle false false false = refl
placed_step n m q false true rest grown less is all ms ns here there =
    let e : n ≡ m = grind (arith, nat_tests, is) in
    rw (here, e) (twice (m == q) rest)
  where
    twice : (b c : Bool) → (b || c) ≡ (b || c || b)
    twice true c = refl
    twice false true = refl
    twice false false = refl
placed_step n m q false false rest grown less is all ms ns here there = rw (there, all) (assoc (m == q) rest (n == q))
  where
    assoc : (a b c : Bool) → (a || (b || c)) ≡ (a || b || c)
    assoc true b c = refl
    assoc false b c = refl

any_placed : (ns : List ℕ) (n q : ℕ) → list_any (λ k. k == q) (placed ns n) ≡ (list_any (λ k. k == q) ns || (n == q))
any_placed [] n q = swap (n == q)
  where
    swap : (a : Bool) → (a || false) ≡ a
    swap true = refl
    swap false = refl
any_placed (m ∷ ms) n q = placed_step n m q (nat_lt n m) (n == m) (list_any (λ k. k == q) ms) (list_any (λ k. k == q) ms || (n == q)) refl refl refl ms (placed ms n) refl (any_placed ms n q)

any_fold : (xs : List SymbolEntry) (before : List ℕ) (q : ℕ) → list_any (λ k. k == q) (fold placed before (map (λ s. s.symbol.value) xs)) ≡ (list_any (λ k. k == q) before || list_any (λ s. s.symbol.value == q) xs)
any_fold [] before q = swap (list_any (λ k. k == q) before)
  where
    swap : (a : Bool) → a ≡ (a || false)
    swap true = refl
    swap false = refl
any_fold (x ∷ xs) before q =
    any_fold xs (placed before x.symbol.value) q
    ∙ ap (λ (b : Bool). b || list_any (λ s. s.symbol.value == q) xs) (any_placed before x.symbol.value q)
    ∙ assoc (list_any (λ k. k == q) before) (x.symbol.value == q) (list_any (λ s. s.symbol.value == q) xs)
  where
    assoc : (a b c : Bool) → (a || b || c) ≡ (a || (b || c))
    assoc true b c = refl
    assoc false b c = refl

-- an address is among those of symbols where one of them has it
pub any_address : (xs : List SymbolEntry) (q : ℕ) → list_any (λ k. k == q) (addresses_of xs) ≡ list_any (λ s. s.symbol.value == q) xs
unfolding addresses_of ascending
any_address xs q = any_fold xs [] q

flip : (a b : ℕ) → (is_at (nat_cmp a) b) ≡ (b == a)
flip a b = grind (arith, nat_tests)

pub any_key : (ns : List ℕ) (q : ℕ) → list_any (is_at (nat_cmp q)) ns ≡ list_any (λ k. k == q) ns
any_key [] q = refl
any_key (n ∷ ns) q = rw (flip q n, any_key ns q) refl

-- numbers put in their places ascend
Rises-weaker : (low high : ℕ) (ns : List ℕ) → low ≤ high → Rises high ns → Rises low ns
Rises-weaker low high [] below rises = tt
Rises-weaker low high (n ∷ ns) below rises = (omega (arith, rises.0), rises.1)

placed_rises : (low n m : ℕ) (ms ns : List ℕ) (less same : Bool) → nat_lt n m ≡ less → (n == m) ≡ same → low ≤ n → low ≤ m → Rises (m + 1) ms → (m + 1 ≤ n → Rises (m + 1) ns) → Rises low (cond less (n ∷ m ∷ ms) (cond same (m ∷ ms) (m ∷ ns)))
placed_rises low n m ms ns true same less is below from rises grown =
    let over : n + 1 ≤ m = grind (arith, nat_tests, less) in
    (below, (over, rises))
placed_rises low n m ms ns false true less is below from rises grown = (from, rises)
placed_rises low n m ms ns false false less is below from rises grown =
    let over : m + 1 ≤ n = grind (arith, nat_tests, less, is) in
    (from, grown over)

Rises-placed : (low n : ℕ) (ns : List ℕ) → low ≤ n → Rises low ns → Rises low (placed ns n)
Rises-placed low n [] below rises = (below, tt)
Rises-placed low n (m ∷ ms) below rises = placed_rises low n m ms (placed ms n) (nat_lt n m) (n == m) refl refl below rises.0 rises.1 (λ over. Rises-placed (m + 1) n ms over rises.1)

Rises-fold : (ns before : List ℕ) → Rises 0 before → Rises 0 (fold placed before ns)
Rises-fold [] before rises = rises
Rises-fold (n ∷ ns) before rises = Rises-fold ns (placed before n) (Rises-placed 0 n before (omega arith) rises)

pub Rises-addresses : (xs : List SymbolEntry) → Rises 0 (addresses_of xs)
unfolding addresses_of ascending
Rises-addresses xs = Rises-fold (map (λ s. s.symbol.value) xs) [] tt

-- a number among those that rise from `low` is not below it
any_low : (low : ℕ) (ns : List ℕ) (n : ℕ) → Rises low ns → list_any (λ k. k == n) ns ≡ true → low ≤ n
any_low low [] n rises some = absurd (false≢true some)
any_low low (m ∷ ms) n rises some = low_step low m n (m == n) (list_any (λ k. k == n) ms) refl rises.0 some (any_low (m + 1) ms n rises.1)
  where
    low_step : (low m n : ℕ) (same rest : Bool) → (m == n) ≡ same → low ≤ m → (same || rest) ≡ true → (rest ≡ true → m + 1 ≤ n) → low ≤ n
    low_step low m n true rest is below some behind = let e : m ≡ n = grind (arith, nat_tests, is) in omega (arith, e)
    low_step low m n false rest is below some behind = omega (arith, behind some)

-- a number that stands there is not put there again
pub placed_old : (low : ℕ) (ns : List ℕ) (n : ℕ) → Rises low ns → list_any (λ k. k == n) ns ≡ true → placed ns n ≡ ns
placed_old low [] n rises some = absurd (false≢true some)
placed_old low (m ∷ ms) n rises some =
    old_step n m ms (placed ms n) (nat_lt n m) (n == m) refl refl some (any_low (m + 1) ms n rises.1) (placed_old (m + 1) ms n rises.1)
  where
    unequal : (n m : ℕ) → (n == m) ≡ false → (m == n) ≡ false
    unequal n m apart = grind (arith, nat_tests, apart)

    rest_of : (same rest : Bool) → same ≡ false → (same || rest) ≡ true → rest ≡ true
    rest_of true rest is some = cc
    rest_of false rest is some = some

    below : (n m : ℕ) → nat_lt n m ≡ true → n < m
    below n m less = grind (arith, nat_tests, less)

    old_step : (n m : ℕ) (ms ns : List ℕ) (less same : Bool) → nat_lt n m ≡ less → (n == m) ≡ same → list_any (λ k. k == n) (m ∷ ms) ≡ true → (list_any (λ k. k == n) ms ≡ true → m + 1 ≤ n) → (list_any (λ k. k == n) ms ≡ true → ns ≡ ms) → cond less (n ∷ m ∷ ms) (cond same (m ∷ ms) (m ∷ ns)) ≡ m ∷ ms
    old_step n m ms ns true same less is some behind old =
        let low = below n m less in
        let apart : (m == n) ≡ false = grind (arith, nat_tests, low) in
        absurd (omega (arith, low, behind (rest_of (m == n) (list_any (λ k. k == n) ms) apart some)))
    old_step n m ms ns false true less is some behind old = refl
    old_step n m ms ns false false less is some behind old = ap (λ (ks : List ℕ). m ∷ ks) (old (rest_of (m == n) (list_any (λ k. k == n) ms) (unequal n m is) some))

-- each number of such a list is above those before it
from_low : (low : ℕ) (ns : List ℕ) (j : ℕ) → Rises low ns → j < length ns → low ≤ get_or ns j 0
from_low low [] j rises inside = absurd (omega arith)
from_low low (n ∷ ns) zero rises inside = rises.0
from_low low (n ∷ ns) (suc j) rises inside =
    let within : j < length ns = omega arith in
    let above = from_low (n + 1) ns j rises.1 within in
    omega (arith, rises.0, above)

pub Rises-at : (low : ℕ) (ns : List ℕ) (i j : ℕ) → Rises low ns → i < j → j < length ns → get_or ns i 0 < get_or ns j 0
Rises-at low [] i j rises before inside = absurd (omega arith)
Rises-at low (n ∷ ns) zero zero rises before inside = absurd (omega arith)
Rises-at low (n ∷ ns) zero (suc j) rises before inside =
    let within : j < length ns = omega arith in
    let above = from_low (n + 1) ns j rises.1 within in
    omega (arith, above)
Rises-at low (n ∷ ns) (suc i) zero rises before inside = absurd (omega arith)
Rises-at low (n ∷ ns) (suc i) (suc j) rises before inside =
    let within : j < length ns = omega arith in
    let apart : i < j = omega arith in
    Rises-at (n + 1) ns i j rises.1 apart within

-- and at or above its place
pub Rises-place : (low : ℕ) (ns : List ℕ) (j : ℕ) → Rises low ns → j < length ns → low + j ≤ get_or ns j 0
Rises-place low [] j rises inside = absurd (omega arith)
Rises-place low (n ∷ ns) zero rises inside = omega (arith, rises.0)
Rises-place low (n ∷ ns) (suc j) rises inside =
    let within : j < length ns = omega arith in
    let above = Rises-place (n + 1) ns j rises.1 within in
    omega (arith, rises.0, above)

-- the first symbols, by ascending address
value_at : (symbols : List SymbolEntry) (a : ℕ) (s : SymbolEntry) → first_at symbols a ≡ Some s → s.symbol.value ≡ a
value_at symbols a s found =
    let holds = find_holds (λ (t : SymbolEntry). Unit {0}) (λ t. t.symbol.value == a) symbols s (λ k d inside. tt) found in
    let passes : (s.symbol.value == a) ≡ true = holds.1 in
    grind (arith, nat_tests, passes)

values_step : (low a : ℕ) (rest : List ℕ) (symbols : List SymbolEntry) (found : Option SymbolEntry) → low ≤ a → first_at symbols a ≡ found → Rises (a + 1) (map (λ s. s.symbol.value) (filter_map (first_at symbols) rest)) → Rises low (map (λ s. s.symbol.value) (filter_map (first_at symbols) (a ∷ rest)))
values_step low a rest symbols None below is rises = rw is (Rises-weaker low (a + 1) _ (omega arith) rises)
values_step low a rest symbols (Some s) below is rises =
    let same : s.symbol.value ≡ a = value_at symbols a s is in
    rw (is, same) (below, rises)

Rises-values : (low : ℕ) (addresses : List ℕ) (symbols : List SymbolEntry) → Rises low addresses → Rises low (map (λ s. s.symbol.value) (filter_map (first_at symbols) addresses))
Rises-values low [] symbols rises = tt
Rises-values low (a ∷ rest) symbols rises = values_step low a rest symbols (first_at symbols a) rises.0 refl (Rises-values (a + 1) rest symbols rises.1)

pub Rises-by_address : (symbols : List SymbolEntry) → Rises 0 (map (λ s. s.symbol.value) (by_address symbols))
unfolding by_address
Rises-by_address symbols = Rises-values 0 (addresses_of symbols) symbols (Rises-addresses symbols)

all_step : (P : SymbolEntry → Type 0) (a : ℕ) (rest : List ℕ) (symbols : List SymbolEntry) (found : Option SymbolEntry) → All P symbols → first_at symbols a ≡ found → All P (filter_map (first_at symbols) rest) → All P (filter_map (first_at symbols) (a ∷ rest))
all_step P a rest symbols None all is behind = rw is behind
all_step P a rest symbols (Some s) all is behind =
    let holds = find_holds P (λ t. t.symbol.value == a) symbols s all is in
    rw is (All-cons P s (filter_map (first_at symbols) rest) holds.0 behind)

all_values : (P : SymbolEntry → Type 0) (addresses : List ℕ) (symbols : List SymbolEntry) → All P symbols → All P (filter_map (first_at symbols) addresses)
all_values P [] symbols all = All-nil P
all_values P (a ∷ rest) symbols all = all_step P a rest symbols (first_at symbols a) all refl (all_values P rest symbols all)

pub All-by_address : (P : SymbolEntry → Type 0) (symbols : List SymbolEntry) → All P symbols → All P (by_address symbols)
unfolding by_address
All-by_address P symbols all = all_values P (addresses_of symbols) symbols all

-- tests and look-ups that agree
pub find_agree : {X : Type 0} (p q : X → Bool) (xs : List X) → ((x : X) → p x ≡ q x) → find p xs ≡ find q xs
find_agree p q [] agree = refl
find_agree p q (x ∷ xs) agree = rw (agree x, find_agree p q xs agree) refl

pub filter_map_agree : {X Y : Type 0} (f g : X → Option Y) (xs : List X) → ((x : X) → f x ≡ g x) → filter_map f xs ≡ filter_map g xs
filter_map_agree f g [] agree = refl
filter_map_agree f g (x ∷ xs) agree = rw (agree x, filter_map_agree f g xs agree) refl

-- the first symbol at an address, at one more symbol
pub first_at-more : (xs : List SymbolEntry) (x : SymbolEntry) (a : ℕ) → first_at (xs ++ x ∷ []) a ≡ option_or (first_at xs a) (cond (x.symbol.value == a) (Some x) None)
first_at-more xs x a = find-append (λ s. s.symbol.value == a) xs (x ∷ [])

or_some : (found : Option SymbolEntry) (x : SymbolEntry) → Some (unwrap_or found x) ≡ option_or found (Some x)
or_some None x = refl
or_some (Some s) x = refl

or_none : (found : Option SymbolEntry) → found ≡ option_or found None
or_none None = refl
or_none (Some s) = refl

apart_at : (k q : ℕ) → (k ≡ q → ⊥) → is_at (nat_cmp k) q ≡ false
apart_at k q apart = grind (arith, nat_tests)

itself : (k : ℕ) → (k == k) ≡ true
itself k = grind (arith, nat_tests)

-- a map that keeps the first symbol of each address
pub first_insert : (g h : ℕ → Option SymbolEntry) (before : List SymbolEntry) (x first : SymbolEntry) → ((a : ℕ) → g a ≡ first_at before a) → first ≡ unwrap_or (g x.symbol.value) x → h x.symbol.value ≡ Some first → ((a : ℕ) → is_at (nat_cmp x.symbol.value) a ≡ false → h a ≡ g a) → (a : ℕ) → h a ≡ first_at (before ++ x ∷ []) a
first_insert g h before x first so_far is here others a =
    elim (eqb_tells x.symbol.value a) [
      | inl e ↦
          let same : x.symbol.value ≡ a = e.1 in
          let value : first ≡ unwrap_or (first_at before x.symbol.value) x = is ∙ ap (λ (o : Option SymbolEntry). unwrap_or o x) (so_far x.symbol.value) in
          let last : h x.symbol.value ≡ first_at (before ++ x ∷ []) x.symbol.value = here ∙ ap Some value ∙ or_some (first_at before x.symbol.value) x ∙ sym (rw (first_at-more before x x.symbol.value, itself x.symbol.value) refl) in
          let P : ℕ → Type 0 = λ q. h q ≡ first_at (before ++ x ∷ []) q in
          subst P same last
      | inr e ↦
          let test : (x.symbol.value == a) ≡ false = unequal x.symbol.value a e.1 in
          rw (first_at-more before x a, test) (others a (apart_at x.symbol.value a e.1) ∙ so_far a ∙ or_none (first_at before a))
    ]
  where
    unequal : (k q : ℕ) → (k ≡ q → ⊥) → (k == q) ≡ false
    unequal k q apart = grind (arith, nat_tests)

-- rule 29 by such a map
pub resized_same : (g : ℕ → Option SymbolEntry) (symbols xs : List SymbolEntry) → ((a : ℕ) → g a ≡ first_at symbols a) → find (λ s. option_map_or (λ first. not (first.symbol.size == s.symbol.size)) (g s.symbol.value) false) xs ≡ find (is_resized symbols) xs
resized_same g symbols xs are = find_agree _ _ xs (λ s. ap (λ (o : Option SymbolEntry). option_map_or (λ first. not (first.symbol.size == s.symbol.size)) o false) (are s.symbol.value))

-- its symbols in order
pub order_same : (g : ℕ → Option SymbolEntry) (symbols : List SymbolEntry) (addresses : List ℕ) → ((a : ℕ) → g a ≡ first_at symbols a) → addresses ≡ addresses_of symbols → filter_map g addresses ≡ by_address symbols
unfolding by_address
order_same g symbols addresses are all = rw all (filter_map_agree g (first_at symbols) (addresses_of symbols) are)
