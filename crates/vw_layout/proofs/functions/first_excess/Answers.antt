use Rattle.std.proofs.Common.{◌≡◌, ℕ, ◌+◌, ◌<◌, ◌≤◌, ◌++◌, [], ◌∷◌, ◌==◌, ◌&&◌, Bool, true, false, not, nat_le, List, length, get_or, take, None, refl, sym, ap, ◌∙◌, arith}
use Rattle.std.specs.List.{find, list_any}
use Rattle.std.specs.BTreeMap.{is_at}
use Rattle.std.specs.Ordering.{nat_cmp}
use Rattle.std.proofs.lemmas.Bool.Decides.{nat_tests}
use Rattle.std.proofs.lemmas.List.{take_all, take_more}
use Rattle.vw_bits.specs.Rules.{with_earlier}
use Rattle.vw_bits.proofs.Tables.{find_earlier_more, find_earlier_here}
use Rattle.vw_layout.specs.Functions.{addresses_of, is_excess, first_excess}
use Rattle.vw_layout.specs.declared.symbols.SymbolEntry.{SymbolEntry}
use Rattle.vw_layout.proofs.AddressLemmas.{addresses-none, addresses-more, key_placed, any_key, any_address}
use Rattle.vw_layout.proofs.functions.first_excess.Goals as goal
use Rattle.vw_layout.proofs.functions.first_excess.Goals.{else-not-contains-via-then-not-contains+else-len-ge-MAX_FUNCTIONS, else-not-contains-via-else-not-contains}

abbrev blank : SymbolEntry
blank = record { symbol = record { name = 0; info = 0; shndx = 0; value = 0; size = 0; at = 0 }; strings_at = 0; strings_size = 0 }

abbrev exceeds : List SymbolEntry × SymbolEntry → Bool
exceeds p = is_excess p.0 p.1

-- whether the set has an address tells whether an earlier symbol has it
among : (keys : List ℕ) (before : List SymbolEntry) (address : ℕ) (there : Bool) → keys ≡ addresses_of before → there ≡ list_any (is_at (nat_cmp address)) keys → there ≡ list_any (λ e. e.symbol.value == address) before
among keys before address there are is = is ∙ any_key keys address ∙ ap (λ (ks : List ℕ). list_any (λ k. k == address) ks) are ∙ any_address before address

both : (there : Bool) (n : ℕ) → there ≡ false → 65536 ≤ n → (not there && nat_le 65536 n) ≡ true
both there n new many = grind (arith, nat_tests, new)

few : (there : Bool) (n : ℕ) → n < 65536 → (not there && nat_le 65536 n) ≡ false
few true n less = refl
few false n less = grind (arith, nat_tests)

exceeds-here : (keys : List ℕ) (before : List SymbolEntry) (x : SymbolEntry) (there : Bool) → keys ≡ addresses_of before → there ≡ list_any (is_at (nat_cmp x.symbol.value)) keys → there ≡ false → 65536 ≤ length keys → exceeds (before, x) ≡ true
exceeds-here keys before x there are is new many =
    let absent : list_any (λ e. e.symbol.value == x.symbol.value) before ≡ false = sym (among keys before x.symbol.value there are is) ∙ new in
    let count : length keys ≡ length (addresses_of before) = ap length are in
    let enough : 65536 ≤ length (addresses_of before) = omega (arith, count, many) in
    both (list_any (λ e. e.symbol.value == x.symbol.value) before) (length (addresses_of before)) absent enough

exceeds-few : (keys : List ℕ) (before : List SymbolEntry) (x : SymbolEntry) → keys ≡ addresses_of before → length keys < 65536 → exceeds (before, x) ≡ false
exceeds-few keys before x are less =
    let count : length keys ≡ length (addresses_of before) = ap length are in
    let enough : length (addresses_of before) < 65536 = omega (arith, count, less) in
    few (list_any (λ e. e.symbol.value == x.symbol.value) before) (length (addresses_of before)) enough

exceeds-old : (keys : List ℕ) (before : List SymbolEntry) (x : SymbolEntry) (there : Bool) → keys ≡ addresses_of before → there ≡ list_any (is_at (nat_cmp x.symbol.value)) keys → there ≡ true → exceeds (before, x) ≡ false
exceeds-old keys before x there are is old =
    let present : list_any (λ e. e.symbol.value == x.symbol.value) before ≡ true = sym (among keys before x.symbol.value there are is) ∙ old in
    rw present refl

pub loop-symbol-init : goal.loop-symbol-init
loop-symbol-init c = record { keys = rw (addresses-none, c.new-addresses.ensures.empty) refl; none = refl }

pub returns-then-len-ge-MAX_FUNCTIONS : goal.returns-then-len-ge-MAX_FUNCTIONS
unfolding first_excess
returns-then-len-ge-MAX_FUNCTIONS c =
    let xs = c.args.symbols.now in
    let i = c.loop-symbol.symbol-index in
    let many : 65536 ≤ length c.loop-symbol.addresses.keys = omega (arith, c.len.ensures.len, c.if-len-ge-MAX_FUNCTIONS.true) in
    let here : exceeds (take i xs, get_or xs i blank) ≡ true = exceeds-here c.loop-symbol.addresses.keys (take i xs) (get_or xs i blank) _ c.loop-symbol.invariant.keys c.contains.ensures c.if-not-contains.true many in
    let found = find_earlier_here exceeds xs i blank c.loop-symbol-test.true c.loop-symbol.invariant.none here in
    rw found refl

pub loop-symbol-preserved : goal.loop-symbol-preserved
loop-symbol-preserved c =
    let xs = c.args.symbols.now in
    let i = c.loop-symbol.symbol-index in
    let x = get_or xs i blank in
    let keys = c.loop-symbol.addresses.keys in
    let step : take (i + 1) xs ≡ take i xs ++ x ∷ [] = take_more xs i blank c.loop-symbol-test.true in
    let not_here : exceeds (take i xs, x) ≡ false =
    elim c.else-not-contains.branch [
      | else-not-contains-via-then-not-contains+else-len-ge-MAX_FUNCTIONS w ↦
          let less : length keys < 65536 = omega (arith, w.len.ensures.len, w.if-len-ge-MAX_FUNCTIONS.false) in
          exceeds-few keys (take i xs) x c.loop-symbol.invariant.keys less
      | else-not-contains-via-else-not-contains w ↦
          exceeds-old keys (take i xs) x _ c.loop-symbol.invariant.keys c.contains.ensures w.if-not-contains.false
    ] in
    record {
      keys = rw (step, addresses-more, ← c.loop-symbol.invariant.keys, ← key_placed) c.in_ok-insert.ensures.keys;
      none = find_earlier_more exceeds xs i blank c.loop-symbol-test.true c.loop-symbol.invariant.none not_here;
    }

pub returns : goal.returns
unfolding first_excess
returns c =
    let xs = c.args.symbols.now in
    let none : find exceeds (with_earlier xs) ≡ None = ap (λ (ys : List SymbolEntry). find exceeds (with_earlier ys)) (sym (take_all c.loop-symbol.symbol-index xs c.loop-symbol-test.false)) ∙ c.loop-symbol.invariant.none in
    rw none refl
