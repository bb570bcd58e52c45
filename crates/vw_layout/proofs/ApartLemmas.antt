-- What rules 30 and 31 give of the declared functions: by ascending address they share no byte, and there are
-- at most 65,536.
use Rattle.std.proofs.Common.{◌≡◌, ℕ, zero, suc, ◌+◌, ◌≤◌, ◌<◌, ◌==◌, ◌&&◌, Bool, true, false, not, cond, nat_le, nat_lt, List, [], ◌∷◌, ◌++◌, length, get_or, take, map, Option, Some, None, option_map, refl, sym, ◌∙◌, arith, append_assoc}
use Rattle.std.specs.List.{find, filter_map, cons_option, list_any, slice_get}
use Rattle.std.proofs.lemmas.Bool.{false≢true}
use Rattle.std.proofs.lemmas.Bool.Decides.{nat_tests}
use Rattle.std.proofs.lemmas.List.{append-nil, length-map, length-take-le, get_or-map, get_or-take}
use Rattle.std.proofs.lemmas.List.Folds.{list_any_at}
use Rattle.std.proofs.lemmas.Option.{slice_get_within, get_or_from_slice_get}
use Rattle.vw_bits.specs.Rules.{each_after, with_earlier, AllHold}
use Rattle.vw_bits.specs.declared.records.Segment.{Segment}
use Rattle.vw_bits.proofs.RuleLemmas.{lowest-each}
use Rattle.vw_layout.specs.Bounds.{Rises}
use Rattle.vw_layout.specs.Functions.{symbol_offset, placed, addresses_of, by_address, first_at, share_byte, first_overlap, is_excess, first_excess, function_of, functions_of, function_rules}
use Rattle.vw_layout.specs.Layout.{layout_fault, layout_rules, IsModule, declared_functions, function_symbols}
use Rattle.vw_layout.specs.declared.symbols.SymbolEntry.{SymbolEntry}
use Rattle.vw_layout.specs.declared.functions.Function.{Function}
use Rattle.vw_layout.proofs.AddressLemmas.{Rises-addresses, Rises-by_address, addresses-more, addresses-none, any_address, placed_old}
use Rattle.vw_layout.proofs.OverlapLemmas.{ordered}
use Rattle.vw_bits.proofs.ListLemmas.{passed}
use Rattle.vw_layout.proofs.ShortLemmas.{unfound}
use Rattle.vw_layout.proofs.CodeLemmas.{layout_holds}

-- lists

unmapped : {X Y : Type 0} (f : X → Y) (found : Option X) → option_map f found ≡ None → found ≡ None
unmapped f None none = refl
unmapped f (Some x) none = cc

-- an item with those before it does not pass where none is found
none_each : {X : Type 0} (p : List X × X → Bool) (before xs : List X) (k : ℕ) (d : X) → find p (each_after before xs) ≡ None → k < length xs → p (before ++ take k xs, get_or xs k d) ≡ false
none_each p before [] k d none inside = absurd (omega arith)
none_each p before (x ∷ xs) zero d none inside = rw append-nil (passed (before, x) (find p (each_after (before ++ x ∷ []) xs)) (p (before, x)) none).0
none_each p before (x ∷ xs) (suc k) d none inside =
    let rest = (passed (before, x) (find p (each_after (before ++ x ∷ []) xs)) (p (before, x)) none).1 in
    let within : k < length xs = omega arith in
    let front : (before ++ x ∷ []) ++ take k xs ≡ before ++ x ∷ take k xs = append_assoc before (x ∷ []) (take k xs) in
    rw front at (none_each p (before ++ x ∷ []) xs k d rest within)

not_true : (passes : Bool) → (passes ≡ true → ⊥) → passes ≡ false
not_true true never = absurd (never refl)
not_true false never = refl

none_any : {X : Type 0} (p : X → Bool) (xs : List X) (k : ℕ) (d : X) → list_any p xs ≡ false → k < length xs → p (get_or xs k d) ≡ false
none_any p xs k d none inside =
    not_true (p (get_or xs k d)) (λ passes. false≢true (sym none ∙ list_any_at p xs k d inside passes))

length-cons_option : {Y : Type 0} (o : Option Y) (ys : List Y) (n : ℕ) → length ys ≤ n → length (cons_option o ys) ≤ suc n
length-cons_option None ys n most = omega (arith, most)
length-cons_option (Some y) ys n most = omega (arith, most)

length-filter_map : {X Y : Type 0} (g : X → Option Y) (xs : List X) → length (filter_map g xs) ≤ length xs
length-filter_map g [] = omega arith
length-filter_map g (x ∷ xs) = length-cons_option (g x) (filter_map g xs) (length xs) (length-filter_map g xs)

-- functions share no byte

behind_of : (a b : SymbolEntry) → a.symbol.value < b.symbol.value → share_byte a b ≡ false → a.symbol.value + a.symbol.size ≤ b.symbol.value
behind_of a b low apart = grind (arith, nat_tests, apart)

symbols_apart : (xs : List SymbolEntry) (j k : ℕ) (d : SymbolEntry) → Rises 0 (map (λ s. s.symbol.value) xs) → first_overlap xs ≡ None → j < k → k < length xs → (get_or xs j d).symbol.value + (get_or xs j d).symbol.size ≤ (get_or xs k d).symbol.value
unfolding first_overlap
symbols_apart xs j k d rises none before inside =
    let overlapping : List SymbolEntry × SymbolEntry → Bool = λ p. list_any (λ lower. share_byte lower p.1) p.0 in
    let unmet : find overlapping (with_earlier xs) ≡ None = unmapped (λ (p : List SymbolEntry × SymbolEntry). p.1) (find overlapping (with_earlier xs)) none in
    let alone : list_any (λ lower. share_byte lower (get_or xs k d)) (take k xs) ≡ false = none_each overlapping [] xs k d unmet inside in
    let count : length (take k xs) ≡ k = length-take-le k xs (omega arith) in
    let there : get_or (take k xs) j d ≡ get_or xs j d = get_or-take k xs j d before in
    let apart : share_byte (get_or (take k xs) j d) (get_or xs k d) ≡ false = none_any (λ lower. share_byte lower (get_or xs k d)) (take k xs) j d alone (omega (arith, count)) in
    behind_of (get_or xs j d) (get_or xs k d) (ordered xs j k d rises before inside) (rw there at apart)

rule_30 : (file : List ℕ) → IsModule file → symbol_offset (first_overlap (by_address (function_symbols file))) ≡ None
unfolding layout_fault function_rules
rule_30 file is = lowest-each 27 (layout_rules file) (layout_holds file is) 3

blank : SymbolEntry
blank = record { symbol = record { name = 0; info = 0; shndx = 0; value = 0; size = 0; at = 0 }; strings_at = 0; strings_size = 0 }

-- the symbol that declares the function at a place
declares : (file : List ℕ) (k : ℕ) (f : Function) → slice_get (declared_functions file) k ≡ Some f → (k < length (by_address (function_symbols file))) × (f ≡ function_of file (get_or (by_address (function_symbols file)) k blank))
unfolding functions_of
declares file k f is =
    let symbols = by_address (function_symbols file) in
    let count : length (map (function_of file) symbols) ≡ length symbols = length-map symbols (function_of file) in
    let within : k < length (map (function_of file) symbols) = slice_get_within (map (function_of file) symbols) k f is in
    let inside : k < length symbols = omega (arith, count, within) in
    (inside, sym (get_or_from_slice_get (map (function_of file) symbols) k f f is) ∙ get_or-map (function_of file) symbols k blank f inside)

pub functions_apart : (file : List ℕ) (j k : ℕ) (f g : Function) → IsModule file → slice_get (declared_functions file) j ≡ Some f → slice_get (declared_functions file) k ≡ Some g → j < k → f.entry + f.size ≤ g.entry
functions_apart file j k f g is first second before =
    let symbols = by_address (function_symbols file) in
    let one = declares file j f first in
    let two = declares file k g second in
    rw (one.1, two.1) (symbols_apart symbols j k blank (Rises-by_address (function_symbols file)) (unfound (first_overlap symbols) (rule_30 file is)) before two.0)

pub entries_ascend : (file : List ℕ) (j k : ℕ) (f g : Function) → IsModule file → slice_get (declared_functions file) j ≡ Some f → slice_get (declared_functions file) k ≡ Some g → j < k → f.entry < g.entry
entries_ascend file j k f g is first second before =
    let symbols = by_address (function_symbols file) in
    let one = declares file j f first in
    let two = declares file k g second in
    rw (one.1, two.1) (ordered symbols j k blank (Rises-by_address (function_symbols file)) before two.0)

-- there are few functions

length-placed : (ns : List ℕ) (n : ℕ) → length (placed ns n) ≤ length ns + 1
length-placed [] n = omega arith
length-placed (m ∷ ms) n = length_step n m ms (placed ms n) (nat_lt n m) (n == m) (length-placed ms n)
  where
    length_step : (n m : ℕ) (ms ns : List ℕ) (less same : Bool) → length ns ≤ length ms + 1 → length (cond less (n ∷ m ∷ ms) (cond same (m ∷ ms) (m ∷ ns))) ≤ length (m ∷ ms) + 1
    length_step n m ms ns true same most = omega arith
    length_step n m ms ns false true most = omega arith
    length_step n m ms ns false false most = omega (arith, most)

-- one more symbol, which is not in excess
few_step : (keys : List ℕ) (n : ℕ) (there : Bool) → list_any (λ k. k == n) keys ≡ there → Rises 0 keys → (not there && nat_le 65536 (length keys)) ≡ false → length keys ≤ 65536 → length (placed keys n) ≤ 65536
few_step keys n true is rises within few = rw (placed_old 0 keys n rises is) few
few_step keys n false is rises within few =
    let room : length keys < 65536 = grind (arith, nat_tests, within) in
    omega (arith, room, length-placed keys n)

few_more : (before : List SymbolEntry) (x : SymbolEntry) → is_excess before x ≡ false → length (addresses_of before) ≤ 65536 → length (addresses_of (before ++ x ∷ [])) ≤ 65536
few_more before x within few =
    rw addresses-more (few_step (addresses_of before) x.symbol.value (list_any (λ e. e.symbol.value == x.symbol.value) before) (any_address before x.symbol.value) (Rises-addresses before) within few)

few_after : (before xs : List SymbolEntry) → find (λ p. is_excess p.0 p.1) (each_after before xs) ≡ None → length (addresses_of before) ≤ 65536 → length (addresses_of (before ++ xs)) ≤ 65536
few_after before [] none few = rw append-nil few
few_after before (x ∷ xs) none few =
    let exceeds : List SymbolEntry × SymbolEntry → Bool = λ p. is_excess p.0 p.1 in
    let both = passed (before, x) (find exceeds (each_after (before ++ x ∷ []) xs)) (exceeds (before, x)) none in
    let front : (before ++ x ∷ []) ++ xs ≡ before ++ x ∷ xs = append_assoc before (x ∷ []) xs in
    rw front at (few_after (before ++ x ∷ []) xs both.1 (few_more before x both.0 few))

few_addresses : (symbols : List SymbolEntry) → first_excess symbols ≡ None → length (addresses_of symbols) ≤ 65536
unfolding first_excess
few_addresses symbols none =
    let exceeds : List SymbolEntry × SymbolEntry → Bool = λ p. is_excess p.0 p.1 in
    few_after [] symbols (unmapped (λ (p : List SymbolEntry × SymbolEntry). p.1) (find exceeds (with_earlier symbols)) none) (rw addresses-none (omega arith))

pub few_by_rule : (bytes : List ℕ) (symbols : List SymbolEntry) → symbol_offset (first_excess symbols) ≡ None → length (functions_of bytes symbols) ≤ 65536
unfolding functions_of by_address
few_by_rule bytes symbols holds =
    let addresses = addresses_of symbols in
    let few : length addresses ≤ 65536 = few_addresses symbols (unfound (first_excess symbols) holds) in
    let most : length (filter_map (first_at symbols) addresses) ≤ length addresses = length-filter_map (first_at symbols) addresses in
    let count : length (map (function_of bytes) (filter_map (first_at symbols) addresses)) ≡ length (filter_map (first_at symbols) addresses) = length-map (filter_map (first_at symbols) addresses) (function_of bytes) in
    omega (arith, few, most, count)

pub few_by_rules : (bytes : List ℕ) (segments : List Segment) (symbols : List SymbolEntry) → AllHold (function_rules bytes segments symbols) → length (functions_of bytes symbols) ≤ 65536
unfolding function_rules
few_by_rules bytes segments symbols holds = few_by_rule bytes symbols (lowest-each 1 (function_rules bytes segments symbols) holds 4)

rule_31 : (file : List ℕ) → IsModule file → symbol_offset (first_excess (function_symbols file)) ≡ None
unfolding layout_fault function_rules
rule_31 file is = lowest-each 27 (layout_rules file) (layout_holds file is) 4

pub few_functions : (file : List ℕ) → IsModule file → length (declared_functions file) ≤ 65536
few_functions file is = few_by_rule file (function_symbols file) (rule_31 file is)
