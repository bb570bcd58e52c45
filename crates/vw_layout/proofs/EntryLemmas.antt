-- What rules 32 to 35 give of the tables of a module and their entries.
use Rattle.std.proofs.Common.{◌≡◌, ◌≢◌, ℕ, zero, suc, ◌+◌, ◌*◌, ◌/◌, ◌<◌, ◌≤◌, ◌&&◌, ◌||◌, ◌⊎◌, Bool, true, false, not, List, [], ◌∷◌, ◌++◌, length, get_or, map, All, Option, Some, None, refl, sym, ap, ◌∙◌, subst, arith, inl, inr}
use Rattle.std.specs.Prelude.{Contains, slice_get}
use Rattle.std.specs.List.{find, flat_map}
use Rattle.std.specs.Option.{option_or}
use Rattle.std.proofs.lemmas.Bool.{cases_lt}
use Rattle.std.proofs.lemmas.Bool.Decides.{nat_tests}
use Rattle.std.proofs.lemmas.List.{length-map, get_or-map}
use Rattle.std.proofs.lemmas.List.Elements.{All-nil, All-cons, All-head, All-tail}
use Rattle.std.proofs.lemmas.List.FromFn.{length-map-range_with_len, get_or-map-range_with_len}
use Rattle.std.proofs.lemmas.Option.{slice_get_within, get_or_from_slice_get, slice_get-get_or}
use Rattle.vw_bits.specs.Headers.{segments_of, table, is_readable, is_executable}
use Rattle.vw_bits.specs.Places.{in_file_part}
use Rattle.vw_bits.specs.declared.records.Segment.{Segment}
use Rattle.vw_bits.proofs.RuleLemmas.{lowest-each}
use Rattle.vw_bits.specs.HeaderRules.{header_fault}
use Rattle.vw_dynamic.specs.Dynamic.{dynamic_fault, file_imports}
use Rattle.vw_image.specs.Image.{Contents, image_of, IsImage}
use Rattle.vw_image.specs.Words.{word_at}
use Rattle.vw_image.specs.Laws.{IsNumbered}
use Rattle.vw_image.specs.declared.word.Word.{Word}
use Rattle.vw_image.specs.declared.word.Word.TheVariants.{Plain, Based, Bound, Mixed, Outside}
use Rattle.vw_layout.specs.Functions.{symbol_offset, function_rules}
use Rattle.vw_layout.specs.Tables.{first_of, agrees, first_disagreeing, pairs_from, pairs_of, place_of, word, number_in, is_plain, is_length, is_empty_tag, is_tag, is_pair, range_rule, pair_rule, is_table, table_rule, entries_from, is_pointer, is_table_entry, entry_rule, table_address, table_length, table_entry_at, table_at, tables_of, table_rules}
use Rattle.vw_layout.specs.Layout.{module_fault, layout_fault, layout_rules, IsModule, declared_functions, declared_tables, tables_symbols}
use Rattle.vw_layout.specs.Laws.{IsData}
use Rattle.vw_layout.specs.declared.symbols.SymbolEntry.{SymbolEntry}
use Rattle.vw_layout.specs.declared.tables.TableInfo.{TableInfo}
use Rattle.vw_layout.specs.declared.tables.TableEntry.{TableEntry}
use Rattle.vw_layout.proofs.ShortLemmas.{find_none-All, unfound}
use Rattle.vw_layout.proofs.CodeLemmas.{layout_holds, OnePasses, one_passes, at_place}
use Rattle.vw_layout.proofs.TableLemmas.{nowhere, passed}

-- lists

-- what a list of images holds is the image of what the list holds
image_of_one : {X Y : Type 0} (f : X → Y) (xs : List X) (y : Y) → Contains (map f xs) y → (x : X) × Contains xs x × (f x ≡ y)
image_of_one f [] y c = let inside : c.0 < 0 = c.1 in absurd (omega arith)
image_of_one {X} {Y} f (x ∷ xs) y c = from (image_of_one f xs y) c.0 c.1 c.2
  where
    from : (Contains (map f xs) y → (z : X) × Contains xs z × (f z ≡ y)) → (k : ℕ) → k < length (map f (x ∷ xs)) → get_or (map f (x ∷ xs)) k y ≡ y → (z : X) × Contains (x ∷ xs) z × (f z ≡ y)
    from later zero inside is = (x, (0, omega arith, refl), is)
    from later (suc k) inside is =
        let within : k < length (map f xs) = omega arith in
        let found = later (k, within, is) in
        (found.0, (suc found.1.0, omega (arith, found.1.1), found.1.2), found.2)

table_place : (at count k d : ℕ) → k < count → get_or (table at 16 count) k d ≡ at + 16 * k
unfolding table
table_place at count k d inside = get_or-map-range_with_len (λ i. at + 16 * i) 0 count k k d inside (omega arith)

table_size : (at count : ℕ) → length (table at 16 count) ≡ count
unfolding table
table_size at count = length-map-range_with_len (λ i. at + 16 * i) 0 count

front_all : {X : Type 0} (P : X → Type 0) (xs ys : List X) → All P (xs ++ ys) → All P xs
front_all P [] ys all = All-nil P
front_all P (x ∷ xs) ys all = All-cons P x xs (All-head P x (xs ++ ys) all) (front_all P xs ys (All-tail P x (xs ++ ys) all))

back_all : {X : Type 0} (P : X → Type 0) (xs ys : List X) → All P (xs ++ ys) → All P ys
back_all P [] ys all = all
back_all P (x ∷ xs) ys all = back_all P xs ys (All-tail P x (xs ++ ys) all)

-- what holds of all entries holds of those of each table
in_flat : {X Y : Type 0} (f : X → List Y) (P : Y → Type 0) (xs : List X) → All P (flat_map f xs) → All (λ x. All P (f x)) xs
in_flat f P [] all = All-nil (λ x. All P (f x))
in_flat f P (x ∷ xs) all =
    All-cons (λ x. All P (f x)) x xs (front_all P (f x) (flat_map f xs) all) (in_flat f P xs (back_all P (f x) (flat_map f xs) all))

-- rules 32 to 35

both_none : {A : Type 0} (a b : Option A) → option_or a b ≡ None → (a ≡ None) × (b ≡ None)
both_none None b none = (refl, none)
both_none (Some x) b none = cc

rule_32 : (file : List ℕ) → IsModule file → symbol_offset (first_disagreeing (tables_symbols file)) ≡ None
unfolding layout_fault function_rules table_rules
rule_32 file is = lowest-each 27 (layout_rules file) (layout_holds file is) 5

rule_33 : (file : List ℕ) → IsModule file → option_or (range_rule (image_of file).segments (first_of (tables_symbols file))) (pair_rule (image_of file) (pairs_of (tables_symbols file))) ≡ None
unfolding layout_fault function_rules table_rules
rule_33 file is = lowest-each 27 (layout_rules file) (layout_holds file is) 6

rule_34 : (file : List ℕ) → IsModule file → table_rule (image_of file) (pairs_of (tables_symbols file)) ≡ None
unfolding layout_fault function_rules table_rules
rule_34 file is = lowest-each 27 (layout_rules file) (layout_holds file is) 7

rule_35 : (file : List ℕ) → IsModule file → entry_rule (image_of file) (declared_functions file) (pairs_of (tables_symbols file)) ≡ None
unfolding layout_fault function_rules table_rules
rule_35 file is = lowest-each 27 (layout_rules file) (layout_holds file is) 8

-- tables by their pairs

pair_of : (file : List ℕ) (t : TableInfo) → Contains (declared_tables file) t → (pair : ℕ) × Contains (pairs_of (tables_symbols file)) pair × (table_at (image_of file) pair ≡ t)
unfolding tables_of
pair_of file t c = image_of_one (table_at (image_of file)) (pairs_of (tables_symbols file)) t c

holds_of : (p : ℕ → Bool) (segments : List Segment) (pairs : List ℕ) (pair : ℕ) → place_of segments (find (λ q. not (p q)) pairs) ≡ None → Contains pairs pair → p pair ≡ true
holds_of p segments pairs pair rule c =
    let all = find_none-All (λ q. not (p q)) pairs (nowhere segments (find (λ q. not (p q)) pairs) rule) in
    passed (p pair) (at_place (λ q. not (p q) ≡ false) pairs pair all c)

is_pair_of : (file : List ℕ) (pair : ℕ) → IsModule file → Contains (pairs_of (tables_symbols file)) pair → is_pair (image_of file) pair ≡ true
is_pair_of file pair is c =
    let image = image_of file in
    let pairs = pairs_of (tables_symbols file) in
    holds_of (is_pair image) image.segments pairs pair (both_none (range_rule image.segments (first_of (tables_symbols file))) (pair_rule image pairs) (rule_33 file is)).1 c

is_table_of : (file : List ℕ) (pair : ℕ) → IsModule file → Contains (pairs_of (tables_symbols file)) pair → is_table (image_of file) pair ≡ true
is_table_of file pair is c = holds_of (is_table (image_of file)) (image_of file).segments (pairs_of (tables_symbols file)) pair (rule_34 file is) c

is_entry_of : (file : List ℕ) (pair : ℕ) → IsModule file → Contains (pairs_of (tables_symbols file)) pair → All (λ entry. not (is_table_entry (image_of file) (declared_functions file) entry) ≡ false) (entries_from (image_of file) pair)
is_entry_of file pair is c =
    let image = image_of file in
    let pairs = pairs_of (tables_symbols file) in
    let wrong : ℕ → Bool = λ entry. not (is_table_entry image (declared_functions file) entry) in
    let P : ℕ → Type 0 = λ entry. wrong entry ≡ false in
    let all = find_none-All wrong (flat_map (entries_from image) pairs) (nowhere image.segments (find wrong (flat_map (entries_from image) pairs)) (rule_35 file is)) in
    at_place (λ q. All P (entries_from image q)) pairs pair (in_flat (entries_from image) P pairs all) c

-- how many there are

few_pairs : (symbols : List SymbolEntry) (first : Option SymbolEntry) → first_of symbols ≡ first → first_disagreeing symbols ≡ None → length (pairs_from first) ≤ 64
few_pairs symbols None at agree = omega arith
few_pairs symbols (Some s) at agree =
    let none : find (λ other. not (agrees s other)) symbols ≡ None = rw at at agree in
    let all = find_none-All (λ other. not (agrees s other)) symbols none in
    let place : Contains symbols s = (0, slice_get_within symbols 0 s at, get_or_from_slice_get symbols 0 s s at) in
    let itself = passed (agrees s s) (at_place (λ other. not (agrees s other) ≡ false) symbols s all place) in
    let small : s.symbol.size ≤ 1024 = grind (arith, nat_tests, itself) in
    omega (arith, small, table_size s.symbol.value (s.symbol.size / 16))

pub few_tables : (file : List ℕ) → IsModule file → length (declared_tables file) ≤ 64
unfolding tables_of pairs_of
few_tables file is =
    let symbols = tables_symbols file in
    let few = few_pairs symbols (first_of symbols) refl (unfound (first_disagreeing symbols) (rule_32 file is)) in
    omega (arith, few, length-map (pairs_from (first_of symbols)) (table_at (image_of file)))

entry_count : (image : Contents) (pair : ℕ) → length (table_at image pair).entries ≡ table_length image pair
unfolding table_at
entry_count image pair = length-map (entries_from image pair) (table_entry_at image) ∙ table_size (table_address image pair) (table_length image pair)

short_of : (w : Word) → is_plain is_length w ≡ true → number_in w ≤ 65536
short_of (Plain number) is = grind (arith, nat_tests, is)
short_of (Based address) is = omega arith
short_of (Bound number) is = omega arith
short_of Mixed is = omega arith
short_of Outside is = omega arith

and_left : (a b : Bool) → (a && b) ≡ true → a ≡ true
and_left true b is = refl
and_left false b is = cc

and_right : (a b : Bool) → (a && b) ≡ true → b ≡ true
and_right true b is = is
and_right false b is = cc

pub few_entries : (file : List ℕ) (t : TableInfo) → IsModule file → Contains (declared_tables file) t → length t.entries ≤ 65536
few_entries file t is c =
    let image = image_of file in
    let at = pair_of file t c in
    let P : TableInfo → Type 0 = λ u. length u.entries ≤ 65536 in
    let short : table_length image at.0 ≤ 65536 = short_of (word image (at.0 + 8)) (and_right _ (is_plain is_length (word image (at.0 + 8))) (is_pair_of file at.0 is at.1)) in
    subst P at.2 (omega (arith, short, entry_count image at.0))

-- where they lie

segments_of_image : (file : List ℕ) → (image_of file).segments ≡ segments_of file
unfolding image_of
segments_of_image file = refl

address_of_table : (image : Contents) (pair : ℕ) → (table_at image pair).address ≡ table_address image pair
unfolding table_at
address_of_table image pair = refl

not_true : (b : Bool) → not b ≡ true → b ≡ false
not_true true is = cc
not_true false is = refl

pub table_data : (file : List ℕ) (t : TableInfo) → IsModule file → Contains (declared_tables file) t → IsData file t
table_data file t is c =
    let image = image_of file in
    let at = pair_of file t c in
    let size = 16 * table_length image at.0 in
    let test : Segment → Bool = λ s. is_readable s && not (is_executable s) && in_file_part (table_address image at.0) size s in
    let found : OnePasses test image.segments = one_passes test image.segments (is_table_of file at.0 is at.1) in
    let s = found.0 in
    let front = and_left (is_readable s && not (is_executable s)) (in_file_part (table_address image at.0) size s) found.2 in
    let P : TableInfo → Type 0 = λ u. in_file_part u.address (16 * length u.entries) s ≡ true in
    let L : List Segment → Type 0 = λ ss. Contains ss s in
    let inside : P (table_at image at.0) = rw (address_of_table image at.0, entry_count image at.0) (and_right (is_readable s && not (is_executable s)) (in_file_part (table_address image at.0) size s) found.2) in
    record {
      segment = s;
      listed = subst L (segments_of_image file) found.1;
      is_read = and_left (is_readable s) (not (is_executable s)) front;
      not_executed = not_true (is_executable s) (and_right (is_readable s) (not (is_executable s)) front);
      inside = subst P at.2 inside;
    }

-- entries by their places

abbrev blank_entry : TableEntry
blank_entry = record { tag = 0; pointer = Outside }

entry_is : (image : Contents) (pair k : ℕ) (e : TableEntry) → slice_get (table_at image pair).entries k ≡ Some e → (k < table_length image pair) × (table_entry_at image (table_address image pair + 16 * k) ≡ e)
unfolding table_at
entry_is image pair k e at =
    let entries = entries_from image pair in
    let size : length entries ≡ table_length image pair = table_size (table_address image pair) (table_length image pair) in
    let inside : k < length (map (table_entry_at image) entries) = slice_get_within (map (table_entry_at image) entries) k e at in
    let within : k < length entries = omega (arith, inside, length-map entries (table_entry_at image)) in
    let below : k < table_length image pair = omega (arith, within, size) in
    let here : get_or (map (table_entry_at image) entries) k e ≡ e = get_or_from_slice_get (map (table_entry_at image) entries) k e e at in
    let same : get_or (map (table_entry_at image) entries) k e ≡ table_entry_at image (get_or entries k 0) = get_or-map (table_entry_at image) entries k 0 e within in
    (below, ap (table_entry_at image) (sym (table_place (table_address image pair) (table_length image pair) k 0 below)) ∙ sym same ∙ here)

entry_passes : (file : List ℕ) (pair k : ℕ) → IsModule file → Contains (pairs_of (tables_symbols file)) pair → k < table_length (image_of file) pair → is_table_entry (image_of file) (declared_functions file) (table_address (image_of file) pair + 16 * k) ≡ true
entry_passes file pair k is c below =
    let image = image_of file in
    let all = is_entry_of file pair is c in
    let place : get_or (entries_from image pair) k 0 ≡ table_address image pair + 16 * k = table_place (table_address image pair) (table_length image pair) k 0 below in
    let within : k < length (entries_from image pair) = omega (arith, below, table_size (table_address image pair) (table_length image pair)) in
    let P : ℕ → Type 0 = λ entry. not (is_table_entry image (declared_functions file) entry) ≡ false in
    passed (is_table_entry image (declared_functions file) (table_address image pair + 16 * k)) (subst P place (all k 0 within))

-- an entry of a table, with what rule 35 says of its words
record Entry (file : List ℕ) (t : TableInfo) (k : ℕ) (e : TableEntry) : Type 0 where
  place : ℕ
  is_at : place ≡ t.address + 16 * k
  is : table_entry_at (image_of file) place ≡ e
  passes : is_table_entry (image_of file) (declared_functions file) place ≡ true

entry_of : (file : List ℕ) (t : TableInfo) (k : ℕ) (e : TableEntry) → IsModule file → Contains (declared_tables file) t → slice_get t.entries k ≡ Some e → Entry file t k e
entry_of file t k e is c at =
    let image = image_of file in
    let pair = pair_of file t c in
    let E : TableInfo → Type 0 = λ u. slice_get u.entries k ≡ Some e in
    let A : TableInfo → Type 0 = λ u. table_address image pair.0 + 16 * k ≡ u.address + 16 * k in
    let here = entry_is image pair.0 k e (subst E (sym pair.2) at) in
    record {
      place = table_address image pair.0 + 16 * k;
      is_at = subst A pair.2 (ap (λ (n : ℕ). n + 16 * k) (sym (address_of_table image pair.0)));
      is = here.1;
      passes = entry_passes file pair.0 k is pair.1 here.0;
    }

-- the words of an entry

plain_is : (passes : ℕ → Bool) (w : Word) → is_plain passes w ≡ true → w ≡ Plain (number_in w)
plain_is passes (Plain number) is = refl
plain_is passes (Based address) is = cc
plain_is passes (Bound number) is = cc
plain_is passes Mixed is = cc
plain_is passes Outside is = cc

tag_is : (image : Contents) (place : ℕ) (e : TableEntry) → table_entry_at image place ≡ e → number_in (word image place) ≡ e.tag
unfolding table_entry_at
tag_is image place e is = ap (λ (x : TableEntry). x.tag) is

pointer_is : (image : Contents) (place : ℕ) (e : TableEntry) → table_entry_at image place ≡ e → word image (place + 8) ≡ e.pointer
unfolding table_entry_at
pointer_is image place e is = ap (λ (x : TableEntry). x.pointer) is

pub tag_word : (file : List ℕ) (t : TableInfo) (k : ℕ) (e : TableEntry) → IsModule file → Contains (declared_tables file) t → slice_get t.entries k ≡ Some e → word_at (image_of file) (t.address + 16 * k) 8 ≡ Plain e.tag
tag_word file t k e is c at =
    let image = image_of file in
    let entry = entry_of file t k e is c at in
    let plain = plain_is is_tag (word image entry.place) (and_left (is_plain is_tag (word image entry.place)) _ entry.passes) in
    let P : ℕ → Type 0 = λ place. word_at image place 8 ≡ Plain e.tag in
    subst P entry.is_at (plain ∙ ap Plain (tag_is image entry.place e entry.is))

pub pointer_word : (file : List ℕ) (t : TableInfo) (k : ℕ) (e : TableEntry) → IsModule file → Contains (declared_tables file) t → slice_get t.entries k ≡ Some e → word_at (image_of file) (t.address + 16 * k + 8) 8 ≡ e.pointer
pointer_word file t k e is c at =
    let image = image_of file in
    let entry = entry_of file t k e is c at in
    let P : ℕ → Type 0 = λ place. word_at image (place + 8) 8 ≡ e.pointer in
    subst P entry.is_at (pointer_is image entry.place e entry.is)

-- what entries may hold

place_in : (t : TableInfo) (e : TableEntry) (c : Contains t.entries e) → slice_get t.entries c.0 ≡ Some e
place_in t e c = slice_get-get_or t.entries c.0 e c.1 ∙ ap Some c.2

tag_cases : (n : ℕ) → is_tag n ≡ true → (n < 4294967295) ⊎ (n ≡ 18446744073709551615)
tag_cases n is = elim (cases_lt n 4294967295) [
  | inl low ↦ inl low
  | inr high ↦ inr (grind (arith, nat_tests, is, high))
]

tag_in : (w : Word) → is_plain is_tag w ≡ true → is_tag (number_in w) ≡ true
tag_in (Plain number) is = is
tag_in (Based address) is = cc
tag_in (Bound number) is = cc
tag_in Mixed is = cc
tag_in Outside is = cc

pub tag_range : (file : List ℕ) (t : TableInfo) (e : TableEntry) → IsModule file → Contains (declared_tables file) t → Contains t.entries e → (e.tag < 4294967295) ⊎ (e.tag ≡ 18446744073709551615)
tag_range file t e is c held =
    let image = image_of file in
    let entry = entry_of file t held.0 e is c (place_in t e held) in
    let P : ℕ → Type 0 = λ n. (n < 4294967295) ⊎ (n ≡ 18446744073709551615) in
    subst P (tag_is image entry.place e entry.is) (tag_cases (number_in (word image entry.place)) (tag_in (word image entry.place) (and_left (is_plain is_tag (word image entry.place)) _ entry.passes)))

empty_is : (w : Word) → is_plain is_empty_tag w ≡ true → number_in w ≡ 18446744073709551615
empty_is (Plain number) is = grind (arith, nat_tests, is)
empty_is (Based address) is = cc
empty_is (Bound number) is = cc
empty_is Mixed is = cc
empty_is Outside is = cc

or_right : (a b : Bool) → (a || b) ≡ true → (a ≡ true → ⊥) → b ≡ true
or_right true b is never = absurd (never refl)
or_right false b is never = is

pub callable_pointer : (file : List ℕ) (t : TableInfo) (e : TableEntry) → IsModule file → Contains (declared_tables file) t → Contains t.entries e → e.tag ≢ 18446744073709551615 → is_pointer (image_of file) (declared_functions file) e.pointer ≡ true
callable_pointer file t e is c held some =
    let image = image_of file in
    let functions = declared_functions file in
    let entry = entry_of file t held.0 e is c (place_in t e held) in
    let tag = word image entry.place in
    let either = and_right (is_plain is_tag tag) (is_plain is_empty_tag tag || is_pointer image functions (word image (entry.place + 8))) entry.passes in
    let P : Word → Type 0 = λ w. is_pointer image functions w ≡ true in
    subst P (pointer_is image entry.place e entry.is) (or_right (is_plain is_empty_tag tag) (is_pointer image functions (word image (entry.place + 8))) either (λ empty. some (sym (tag_is image entry.place e entry.is) ∙ empty_is tag empty)))

imports_of_image : (file : List ℕ) → (image_of file).imports ≡ file_imports file
unfolding image_of
imports_of_image file = refl

image_is : (file : List ℕ) → IsModule file → IsImage (image_of file)
unfolding image_of module_fault
image_is file is =
    let first = both_none (header_fault file) (option_or (dynamic_fault file) (layout_fault file)) is in
    record { headers = first.0; dynamic = (both_none (dynamic_fault file) (layout_fault file) first.1).0; whole = refl }

pub numbered_pointer : ((image : Contents) → IsImage image → (a size : ℕ) → IsNumbered (length image.imports) (word_at image a size)) → (file : List ℕ) (t : TableInfo) (e : TableEntry) → IsModule file → Contains (declared_tables file) t → Contains t.entries e → IsNumbered (length (file_imports file)) e.pointer
numbered_pointer law file t e is c held =
    let image = image_of file in
    let entry = entry_of file t held.0 e is c (place_in t e held) in
    let N : List (List ℕ) → Type 0 = λ names. IsNumbered (length names) (word image (entry.place + 8)) in
    let P : Word → Type 0 = λ w. IsNumbered (length (file_imports file)) w in
    subst P (pointer_is image entry.place e entry.is) (subst N (imports_of_image file) (law image (image_is file is) (entry.place + 8) 8))
