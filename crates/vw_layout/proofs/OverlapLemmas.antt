-- Functions by ascending address: one that shares a byte with one before it shares one with the one just
-- before it, where these share none.
use Rattle.std.proofs.Common.{◌≡◌, ℕ, ◌+◌, ◌-◌, ◌<◌, ◌≤◌, List, map, length, get_or, take, Bool, true, false, All, arith}
use Rattle.std.specs.List.{list_any}
use Rattle.std.proofs.lemmas.Bool.Decides.{nat_tests}
use Rattle.std.proofs.lemmas.List.{get_or-take, length-take-le, get_or-map, length-map}
use Rattle.std.proofs.lemmas.List.Folds.{list_any_at, list_any_none}
use Rattle.std.proofs.lemmas.List.Elements.{All-weaker, All-more}
use Rattle.vw_layout.specs.Bounds.{Rises}
use Rattle.vw_layout.specs.Functions.{share_byte}
use Rattle.vw_layout.specs.declared.symbols.SymbolEntry.{SymbolEntry}
use Rattle.vw_layout.proofs.AddressLemmas.{Rises-at}

both : (a b : SymbolEntry) → a.symbol.value < b.symbol.value → b.symbol.value < a.symbol.value + a.symbol.size → share_byte a b ≡ true
both a b low high = grind (arith, nat_tests)

pub ordered : (xs : List SymbolEntry) (i j : ℕ) (d : SymbolEntry) → Rises 0 (map (λ s. s.symbol.value) xs) → i < j → j < length xs → (get_or xs i d).symbol.value < (get_or xs j d).symbol.value
ordered xs i j d rises before inside =
    let within : i < length xs = omega arith in
    let first = get_or-map (λ (s : SymbolEntry). s.symbol.value) xs i d 0 within in
    let second = get_or-map (λ (s : SymbolEntry). s.symbol.value) xs j d 0 inside in
    let count = length-values xs in
    let past : j < length (map (λ (s : SymbolEntry). s.symbol.value) xs) = omega (arith, count) in
    let above = Rises-at 0 (map (λ (s : SymbolEntry). s.symbol.value) xs) i j rises before past in
    omega (arith, above, first, second)
  where
    length-values : (ys : List SymbolEntry) → length (map (λ (s : SymbolEntry). s.symbol.value) ys) ≡ length ys
    length-values ys = length-map ys (λ (s : SymbolEntry). s.symbol.value)

pub shares_last : (xs : List SymbolEntry) (i end : ℕ) (d : SymbolEntry) → Rises 0 (map (λ s. s.symbol.value) xs) → i < length xs → 0 < i → end ≡ (get_or xs (i - 1) d).symbol.value + (get_or xs (i - 1) d).symbol.size → (get_or xs i d).symbol.value < end → list_any (λ lower. share_byte lower (get_or xs i d)) (take i xs) ≡ true
shares_last xs i end d rises inside some last overlap =
    let x = get_or xs i d in
    let p : SymbolEntry → Bool = λ lower. share_byte lower x in
    let before : i - 1 < i = omega arith in
    let count : length (take i xs) ≡ i = length-take-le i xs (omega arith) in
    let within : i - 1 < length (take i xs) = omega (arith, count) in
    let low = ordered xs (i - 1) i d rises before inside in
    let high : x.symbol.value < (get_or xs (i - 1) d).symbol.value + (get_or xs (i - 1) d).symbol.size = omega (arith, overlap, last) in
    let shared : p (get_or xs (i - 1) d) ≡ true = both (get_or xs (i - 1) d) x low high in
    let there : get_or (take i xs) (i - 1) d ≡ get_or xs (i - 1) d = get_or-take i xs (i - 1) d before in
    list_any_at p (take i xs) (i - 1) d within (rw there shared)

none_with : (end : ℕ) (x e : SymbolEntry) → end ≤ x.symbol.value → e.symbol.value + e.symbol.size ≤ end → share_byte e x ≡ false
none_with end x e behind ends = grind (arith, nat_tests)

pub shares_none : (xs : List SymbolEntry) (end : ℕ) (x : SymbolEntry) → All (λ e. e.symbol.value + e.symbol.size ≤ end) xs → end ≤ x.symbol.value → list_any (λ lower. share_byte lower x) xs ≡ false
shares_none xs end x ends behind =
    list_any_none (λ lower. share_byte lower x) xs (All-weaker (λ e. e.symbol.value + e.symbol.size ≤ end) (λ e. share_byte e x ≡ false) (λ e ends_there. none_with end x e behind ends_there) xs ends)

pub ends_more : (xs : List SymbolEntry) (i end : ℕ) (d : SymbolEntry) → i < length xs → All (λ e. e.symbol.value + e.symbol.size ≤ end) (take i xs) → end ≤ (get_or xs i d).symbol.value → All (λ e. e.symbol.value + e.symbol.size ≤ (get_or xs i d).symbol.value + (get_or xs i d).symbol.size) (take (i + 1) xs)
ends_more xs i end d inside ends behind =
    let last = (get_or xs i d).symbol.value + (get_or xs i d).symbol.size in
    All-more (λ e. e.symbol.value + e.symbol.size ≤ last) xs i d inside (All-weaker (λ e. e.symbol.value + e.symbol.size ≤ end) (λ e. e.symbol.value + e.symbol.size ≤ last) (λ e below. omega (arith, below, behind)) (take i xs) ends) (omega arith)
