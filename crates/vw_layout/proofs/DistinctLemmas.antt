-- Sections that name the same symbols again change nothing: what is asked of symbols is the same without them.
use Rattle.std.proofs.Common.{◌≡◌, ℕ, zero, suc, ◌<◌, ◌==◌, ◌&&◌, ◌||◌, List, [], ◌∷◌, ◌++◌, map, length, get_or, Bool, true, false, not, cond, Option, Some, None, option_map, nat_le, refl, sym, ap, subst, ◌∙◌, append_assoc, arith}
use Rattle.std.specs.Prelude.{option_and_then, Contains}
use Rattle.std.specs.List.{find, filter_map, list_any, fold}
use Rattle.std.specs.Option.{option_or, option_map_or}
use Rattle.std.proofs.lemmas.Bool.{false≢true}
use Rattle.std.proofs.lemmas.Bool.Decides.{nat_tests}
use Rattle.std.proofs.lemmas.List.{append-nil, map-append}
use Rattle.std.proofs.lemmas.List.Concat.{flat_map-append}
use Rattle.std.proofs.lemmas.List.Elements.{All-nil, All-push, All-head, All-tail, filter-append, Contains-append_left, Contains-append_right}
use Rattle.std.proofs.lemmas.List.Folds.{find-append}
use Rattle.std.proofs.lemmas.List.Sums.{fold-append}
use Rattle.vw_bits.specs.Rules.{each_after}
use Rattle.vw_bits.specs.declared.records.Segment.{Segment}
use Rattle.vw_elf.specs.declared.sections.SymbolSection.{SymbolSection}
use Rattle.vw_image.specs.Image.{Contents}
use Rattle.vw_layout.specs.Bounds.{IsInside, AreInside}
use Rattle.vw_layout.specs.Functions.{first_at, placed, ascending, addresses_of, by_address, is_nameless, is_misplaced, is_resized, is_excess, first_excess, function_rules, functions_of}
use Rattle.vw_layout.specs.Symbols.{symbols_of, symbols_for, is_same_section, with_section, distinct_sections}
use Rattle.vw_layout.specs.Tables.{first_of, first_disagreeing, agrees, pairs_of, table_rules, tables_of}
use Rattle.vw_layout.specs.declared.functions.Function.{Function}
use Rattle.vw_layout.specs.declared.symbols.Role.{Role}
use Rattle.vw_layout.specs.declared.symbols.SymbolEntry.{SymbolEntry}
use Rattle.vw_layout.proofs.AddressLemmas.{any_address, placed_old, Rises-addresses, find_agree, filter_map_agree}

-- lists of symbols in which the same are found, at the same addresses
pub record AreAlike (xs ys : List SymbolEntry) : Type 0 where
  pub finds : (p : SymbolEntry → Bool) → find p xs ≡ find p ys
  pub addresses : addresses_of xs ≡ addresses_of ys
  pub excess : first_excess xs ≡ first_excess ys

alike : (xs : List SymbolEntry) → AreAlike xs xs
alike xs = record { finds = λ p. refl; addresses = refl; excess = refl }

alike-trans : (xs ys zs : List SymbolEntry) → AreAlike xs ys → AreAlike ys zs → AreAlike xs zs
alike-trans xs ys zs a b = record { finds = λ p. a.finds p ∙ b.finds p; addresses = a.addresses ∙ b.addresses; excess = a.excess ∙ b.excess }

addresses-append : (xs zs : List SymbolEntry) → addresses_of (xs ++ zs) ≡ fold placed (addresses_of xs) (map (λ s. s.symbol.value) zs)
unfolding addresses_of ascending
addresses-append xs zs = rw (map-append, fold-append) refl

-- the symbol with the 65,537th address among those behind others
abbrev excess_of : List SymbolEntry → List SymbolEntry → Option SymbolEntry
excess_of before zs = option_map (λ p. p.1) (find (λ p. is_excess p.0 p.1) (each_after before zs))

excess-cons : (before zs : List SymbolEntry) (z : SymbolEntry) → excess_of before (z ∷ zs) ≡ cond (is_excess before z) (Some z) (excess_of (before ++ z ∷ []) zs)
excess-cons before zs z = step (is_excess before z)
  where
    step : (over : Bool) → option_map (λ p. p.1) (cond over (Some (before, z)) (find (λ p. is_excess p.0 p.1) (each_after (before ++ z ∷ []) zs))) ≡ cond over (Some z) (excess_of (before ++ z ∷ []) zs)
    step true = refl
    step false = refl

excess-append : (xs zs before : List SymbolEntry) → excess_of before (xs ++ zs) ≡ option_or (excess_of before xs) (excess_of (before ++ xs) zs)
excess-append [] zs before = ap (λ (ys : List SymbolEntry). excess_of ys zs) (sym (append-nil before))
excess-append (x ∷ xs) zs before =
    excess-cons before (xs ++ zs) x
    ∙ (step (is_excess before x) (excess-append xs zs (before ++ x ∷ []) ∙ ap (λ (ys : List SymbolEntry). option_or (excess_of (before ++ x ∷ []) xs) (excess_of ys zs)) (append_assoc before (x ∷ []) xs))
    ∙ ap (λ (o : Option SymbolEntry). option_or o (excess_of (before ++ x ∷ xs) zs)) (sym (excess-cons before xs x)))
  where
    step : (over : Bool) → excess_of (before ++ x ∷ []) (xs ++ zs) ≡ option_or (excess_of (before ++ x ∷ []) xs) (excess_of (before ++ x ∷ xs) zs) → cond over (Some x) (excess_of (before ++ x ∷ []) (xs ++ zs)) ≡ option_or (cond over (Some x) (excess_of (before ++ x ∷ []) xs)) (excess_of (before ++ x ∷ xs) zs)
    step true rest = refl
    step false rest = rest

first-append : (xs zs : List SymbolEntry) → first_excess (xs ++ zs) ≡ option_or (first_excess xs) (excess_of xs zs)
unfolding first_excess
first-append xs zs = excess-append xs zs []

excess-same : (zs before other : List SymbolEntry) → addresses_of before ≡ addresses_of other → excess_of before zs ≡ excess_of other zs
excess-same [] before other same = refl
excess-same (z ∷ zs) before other same =
    let there : list_any (λ e. e.symbol.value == z.symbol.value) before ≡ list_any (λ e. e.symbol.value == z.symbol.value) other = sym (any_address before z.symbol.value) ∙ (ap (λ (ns : List ℕ). list_any (λ k. k == z.symbol.value) ns) same ∙ any_address other z.symbol.value) in
    let over : is_excess before z ≡ is_excess other z = ap (λ (b : Bool). not b && nat_le 65536 (length (addresses_of before))) there ∙ ap (λ (ns : List ℕ). not (list_any (λ e. e.symbol.value == z.symbol.value) other) && nat_le 65536 (length ns)) same in
    let more : addresses_of (before ++ z ∷ []) ≡ addresses_of (other ++ z ∷ []) = addresses-append before (z ∷ []) ∙ (ap (λ (ns : List ℕ). placed ns z.symbol.value) same ∙ sym (addresses-append other (z ∷ []))) in
    excess-cons before zs z
    ∙ (ap (λ (b : Bool). cond b (Some z) (excess_of (before ++ z ∷ []) zs)) over
    ∙ (ap (λ (o : Option SymbolEntry). cond (is_excess other z) (Some z) o) (excess-same zs (before ++ z ∷ []) (other ++ z ∷ []) more)
    ∙ sym (excess-cons other zs z)))

alike-append : (xs ys zs : List SymbolEntry) → AreAlike xs ys → AreAlike (xs ++ zs) (ys ++ zs)
alike-append xs ys zs a =
    record {
      finds = λ p. find-append p xs zs ∙ (ap (λ (o : Option SymbolEntry). option_or o (find p zs)) (a.finds p) ∙ sym (find-append p ys zs));
      addresses =
          addresses-append xs zs
          ∙ (ap (λ (ns : List ℕ). fold placed ns (map (λ (s : SymbolEntry). s.symbol.value) zs)) a.addresses
          ∙ sym (addresses-append ys zs));
      excess =
          first-append xs zs
          ∙ (ap (λ (o : Option SymbolEntry). option_or o (excess_of xs zs)) a.excess
          ∙ (ap (λ (o : Option SymbolEntry). option_or (first_excess ys) o) (excess-same zs xs ys a.addresses)
          ∙ sym (first-append ys zs)));
    }

-- a symbol that stands there already
or_none : (found : Option SymbolEntry) → option_or found None ≡ found
or_none None = refl
or_none (Some s) = refl

find_old : (p : SymbolEntry → Bool) (ys : List SymbolEntry) (z : SymbolEntry) (k : ℕ) → k < length ys → get_or ys k z ≡ z → option_or (find p ys) (find p (z ∷ [])) ≡ find p ys
find_old p [] z k inside is = absurd (omega arith)
find_old p (y ∷ ys) z zero inside is = found (p y) refl
  where
    found : (passes : Bool) → p y ≡ passes → option_or (cond passes (Some y) (find p ys)) (find p (z ∷ [])) ≡ cond passes (Some y) (find p ys)
    found true here = refl
    found false here = let fails : p z ≡ false = ap p (sym is) ∙ here in rw fails (or_none (find p ys))
find_old p (y ∷ ys) z (suc k) inside is = found (p y) (find_old p ys z k (omega arith) is)
  where
    found : (passes : Bool) → option_or (find p ys) (find p (z ∷ [])) ≡ find p ys → option_or (cond passes (Some y) (find p ys)) (find p (z ∷ [])) ≡ cond passes (Some y) (find p ys)
    found true rest = refl
    found false rest = rest

any_old : (p : SymbolEntry → Bool) (ys : List SymbolEntry) (z : SymbolEntry) (k : ℕ) → k < length ys → get_or ys k z ≡ z → p z ≡ true → list_any p ys ≡ true
any_old p [] z k inside is passes = absurd (omega arith)
any_old p (y ∷ ys) z zero inside is passes = let here : p y ≡ true = ap p is ∙ passes in rw here refl
any_old p (y ∷ ys) z (suc k) inside is passes = or_true (p y) (any_old p ys z k (omega arith) is passes)
  where
    or_true : (a : Bool) → list_any p ys ≡ true → (a || list_any p ys) ≡ true
    or_true true there = refl
    or_true false there = there

itself : (n : ℕ) → (n == n) ≡ true
itself n = grind (arith, nat_tests)

address_old : (ys : List SymbolEntry) (z : SymbolEntry) → Contains ys z → list_any (λ s. s.symbol.value == z.symbol.value) ys ≡ true
address_old ys z there = any_old (λ s. s.symbol.value == z.symbol.value) ys z there.0 there.1 there.2 (itself z.symbol.value)

excess-old : (ys : List SymbolEntry) (z : SymbolEntry) → list_any (λ s. s.symbol.value == z.symbol.value) ys ≡ true → excess_of ys (z ∷ []) ≡ None
excess-old ys z there = let within : is_excess ys z ≡ false = rw there refl in excess-cons ys [] z ∙ rw within refl

alike-old : (ys : List SymbolEntry) (z : SymbolEntry) → Contains ys z → AreAlike (ys ++ z ∷ []) ys
alike-old ys z there =
    record {
      finds = λ p. find-append p ys (z ∷ []) ∙ find_old p ys z there.0 there.1 there.2;
      addresses = addresses-append ys (z ∷ []) ∙ placed_old 0 (addresses_of ys) z.symbol.value (Rises-addresses ys) (any_address ys z.symbol.value ∙ address_old ys z there);
      excess = first-append ys (z ∷ []) ∙ (ap (λ (o : Option SymbolEntry). option_or (first_excess ys) o) (excess-old ys z (address_old ys z there)) ∙ or_none (first_excess ys));
    }

-- and symbols that all do
alike-olds : (zs ys : List SymbolEntry) → ((z : SymbolEntry) → Contains zs z → Contains ys z) → AreAlike (ys ++ zs) ys
alike-olds [] ys old = subst (λ (xs : List SymbolEntry). AreAlike xs ys) (sym (append-nil ys)) (alike ys)
alike-olds (z ∷ zs) ys old =
    let first : AreAlike ((ys ++ z ∷ []) ++ zs) (ys ++ zs) = alike-append (ys ++ z ∷ []) ys zs (alike-old ys z (old z (0, omega arith, refl))) in
    let rest : AreAlike (ys ++ zs) ys = alike-olds zs ys (λ y there. old y (suc there.0, omega (arith, there.1), there.2)) in
    subst (λ (xs : List SymbolEntry). AreAlike xs ys) (append_assoc ys (z ∷ []) zs) (alike-trans ((ys ++ z ∷ []) ++ zs) (ys ++ zs) ys first rest)

-- sections

symbols-append : (bytes : List ℕ) (role : Role) (ss ts : List SymbolSection) → symbols_for bytes (ss ++ ts) role ≡ symbols_for bytes ss role ++ symbols_for bytes ts role
unfolding symbols_for symbols_of
symbols-append bytes role ss ts = rw (flat_map-append, filter-append) refl

-- the symbols of a section that stands among others are among theirs
among : (bytes : List ℕ) (role : Role) (kept : List SymbolSection) (s : SymbolSection) (k : ℕ) → k < length kept → get_or kept k s ≡ s → (z : SymbolEntry) → Contains (symbols_for bytes (s ∷ []) role) z → Contains (symbols_for bytes kept role) z
among bytes role [] s k inside is z there = absurd (omega arith)
among bytes role (x ∷ kept) s zero inside is z there =
    let here : Contains (symbols_for bytes (x ∷ []) role) z = subst (λ (y : SymbolSection). Contains (symbols_for bytes (y ∷ []) role) z) (sym is) there in
    subst (λ (zs : List SymbolEntry). Contains zs z) (sym (symbols-append bytes role (x ∷ []) kept)) (Contains-append_left (symbols_for bytes (x ∷ []) role) (symbols_for bytes kept role) z here)
among bytes role (x ∷ kept) s (suc k) inside is z there =
    subst (λ (zs : List SymbolEntry). Contains zs z) (sym (symbols-append bytes role (x ∷ []) kept)) (Contains-append_right (symbols_for bytes (x ∷ []) role) (symbols_for bytes kept role) z (among bytes role kept s k (omega arith) is z there))

-- a section that is the same as another is that one
abbrev section_from : ℕ → ℕ → ℕ → ℕ → SymbolSection
section_from a b c d = record { offset = a; count = b; strings_at = c; strings_size = d }

rebuilt : (a b c d e f g h : ℕ) → a ≡ e → b ≡ f → c ≡ g → d ≡ h → section_from a b c d ≡ section_from e f g h
rebuilt a b c d e f g h p q r t = rw (p, q, r, t) refl

four : (a b c d e f g h : ℕ) → (a == e && (b == f && (c == g && d == h))) ≡ true → (e ≡ a) × (f ≡ b) × (g ≡ c) × (h ≡ d)
four a b c d e f g h same = (grind (arith, nat_tests, same), grind (arith, nat_tests, same), grind (arith, nat_tests, same), grind (arith, nat_tests, same))

same_is : (s x : SymbolSection) → is_same_section s x ≡ true → x ≡ s
same_is s x same =
    let each = four s.offset s.count s.strings_at s.strings_size x.offset x.count x.strings_at x.strings_size same in
    rebuilt x.offset x.count x.strings_at x.strings_size s.offset s.count s.strings_at s.strings_size each.0 each.1 each.2 each.3

place_of_same : (kept : List SymbolSection) (s : SymbolSection) → list_any (is_same_section s) kept ≡ true → (k : ℕ) × (k < length kept) × (get_or kept k s ≡ s)
place_of_same [] s some = absurd (false≢true some)
place_of_same (x ∷ kept) s some = step (is_same_section s x) refl some (λ there. place_of_same kept s there)
  where
    step : (same : Bool) → is_same_section s x ≡ same → (same || list_any (is_same_section s) kept) ≡ true → (list_any (is_same_section s) kept ≡ true → (k : ℕ) × (k < length kept) × (get_or kept k s ≡ s)) → (k : ℕ) × (k < length (x ∷ kept)) × (get_or (x ∷ kept) k s ≡ s)
    step true is there behind = (0, omega arith, same_is s x is)
    step false is there behind = let rest = behind there in (suc rest.0, omega (arith, rest.1), rest.2)

alike_step : (bytes : List ℕ) (role : Role) (done kept : List SymbolSection) (s : SymbolSection) (there : Bool) → list_any (is_same_section s) kept ≡ there → AreAlike (symbols_for bytes done role) (symbols_for bytes kept role) → AreAlike (symbols_for bytes (done ++ s ∷ []) role) (symbols_for bytes (cond there kept (kept ++ s ∷ [])) role)
alike_step bytes role done kept s true is a =
    let place = place_of_same kept s is in
    let zs = symbols_for bytes (s ∷ []) role in
    let more = alike-append (symbols_for bytes done role) (symbols_for bytes kept role) zs a in
    let old = alike-olds zs (symbols_for bytes kept role) (λ z there. among bytes role kept s place.0 place.1 place.2 z there) in
    subst (λ (xs : List SymbolEntry). AreAlike xs (symbols_for bytes kept role)) (sym (symbols-append bytes role done (s ∷ []))) (alike-trans (symbols_for bytes done role ++ zs) (symbols_for bytes kept role ++ zs) (symbols_for bytes kept role) more old)
alike_step bytes role done kept s false is a =
    let zs = symbols_for bytes (s ∷ []) role in
    let more = alike-append (symbols_for bytes done role) (symbols_for bytes kept role) zs a in
    subst (λ (xs : List SymbolEntry). AreAlike xs (symbols_for bytes (kept ++ s ∷ []) role)) (sym (symbols-append bytes role done (s ∷ [])))
    (subst (λ (ys : List SymbolEntry). AreAlike (symbols_for bytes done role ++ zs) ys) (sym (symbols-append bytes role kept (s ∷ []))) more)

alike_fold : (bytes : List ℕ) (role : Role) (rest done kept : List SymbolSection) → AreAlike (symbols_for bytes done role) (symbols_for bytes kept role) → AreAlike (symbols_for bytes (done ++ rest) role) (symbols_for bytes (fold with_section kept rest) role)
alike_fold bytes role [] done kept a = subst (λ (ss : List SymbolSection). AreAlike (symbols_for bytes ss role) (symbols_for bytes kept role)) (sym (append-nil done)) a
alike_fold bytes role (s ∷ rest) done kept a =
    subst (λ (ss : List SymbolSection). AreAlike (symbols_for bytes ss role) (symbols_for bytes (fold with_section (with_section kept s) rest) role)) (append_assoc done (s ∷ []) rest)
    (alike_fold bytes role rest (done ++ s ∷ []) (with_section kept s) (alike_step bytes role done kept s (list_any (is_same_section s) kept) refl a))

pub alike_distinct : (bytes : List ℕ) (sections : List SymbolSection) (role : Role) → AreAlike (symbols_for bytes sections role) (symbols_for bytes (distinct_sections sections) role)
unfolding distinct_sections
alike_distinct bytes sections role = alike_fold bytes role sections [] [] (alike (symbols_for bytes [] role))

-- sections inside the file stay inside
inside_fold : (len : ℕ) (rest kept : List SymbolSection) → AreInside len kept → AreInside len rest → AreInside len (fold with_section kept rest)
inside_fold len [] kept all behind = all
inside_fold len (s ∷ rest) kept all behind = inside_fold len rest (with_section kept s) (step (list_any (is_same_section s) kept)) (All-tail (IsInside len) s rest behind)
  where
    step : (there : Bool) → AreInside len (cond there kept (kept ++ s ∷ []))
    step true = all
    step false = All-push (IsInside len) kept s all (All-head (IsInside len) s rest behind)

pub inside_distinct : (len : ℕ) (sections : List SymbolSection) → AreInside len sections → AreInside len (distinct_sections sections)
unfolding distinct_sections
inside_distinct len sections all = inside_fold len sections [] (All-nil (IsInside len)) all

-- the rules

addresses_alike : (xs ys : List SymbolEntry) → AreAlike xs ys → by_address xs ≡ by_address ys
unfolding by_address
addresses_alike xs ys a = ap (λ (ns : List ℕ). filter_map (first_at xs) ns) a.addresses ∙ filter_map_agree (first_at xs) (first_at ys) (addresses_of ys) (λ address. a.finds (λ s. s.symbol.value == address))

resized_alike : (xs ys : List SymbolEntry) → AreAlike xs ys → find (is_resized xs) xs ≡ find (is_resized ys) ys
resized_alike xs ys a =
    find_agree (is_resized xs) (is_resized ys) xs (λ s. ap (λ (o : Option SymbolEntry). option_map_or (λ first. not (first.symbol.size == s.symbol.size)) o false) (a.finds (λ t. t.symbol.value == s.symbol.value))) ∙ a.finds (is_resized ys)

pub rules_alike : (bytes : List ℕ) (segments : List Segment) (xs ys : List SymbolEntry) → AreAlike xs ys → function_rules bytes segments xs ≡ function_rules bytes segments ys
unfolding function_rules
rules_alike bytes segments xs ys a =
    rw (a.finds (is_nameless bytes), a.finds (is_misplaced segments), resized_alike xs ys a, addresses_alike xs ys a, a.excess) refl

pub functions_alike : (bytes : List ℕ) (xs ys : List SymbolEntry) → AreAlike xs ys → functions_of bytes xs ≡ functions_of bytes ys
unfolding functions_of
functions_alike bytes xs ys a = rw (addresses_alike xs ys a) refl

first_found : (xs : List SymbolEntry) → first_of xs ≡ find (λ s. true) xs
first_found [] = refl
first_found (x ∷ xs) = refl

first_alike : (xs ys : List SymbolEntry) → AreAlike xs ys → first_of xs ≡ first_of ys
first_alike xs ys a = first_found xs ∙ (a.finds (λ s. true) ∙ sym (first_found ys))

disagreeing_alike : (xs ys : List SymbolEntry) → AreAlike xs ys → first_disagreeing xs ≡ first_disagreeing ys
disagreeing_alike xs ys a = ap (λ (o : Option SymbolEntry). option_and_then (λ first. find (λ s. not (agrees first s)) xs) o) (first_alike xs ys a) ∙ each (first_of ys)
  where
    each : (o : Option SymbolEntry) → option_and_then (λ first. find (λ s. not (agrees first s)) xs) o ≡ option_and_then (λ first. find (λ s. not (agrees first s)) ys) o
    each None = refl
    each (Some first) = a.finds (λ s. not (agrees first s))

pairs_alike : (xs ys : List SymbolEntry) → AreAlike xs ys → pairs_of xs ≡ pairs_of ys
unfolding pairs_of
pairs_alike xs ys a = rw (first_alike xs ys a) refl

pub table_rules_alike : (image : Contents) (functions : List Function) (xs ys : List SymbolEntry) → AreAlike xs ys → table_rules image functions xs ≡ table_rules image functions ys
unfolding table_rules
table_rules_alike image functions xs ys a = rw (disagreeing_alike xs ys a, first_alike xs ys a, pairs_alike xs ys a) refl

pub tables_alike : (image : Contents) (xs ys : List SymbolEntry) → AreAlike xs ys → tables_of image xs ≡ tables_of image ys
unfolding tables_of
tables_alike image xs ys a = rw (pairs_alike xs ys a) refl

-- one more section
pub distinct-more : (done : List SymbolSection) (s : SymbolSection) → distinct_sections (done ++ s ∷ []) ≡ with_section (distinct_sections done) s
unfolding distinct_sections
distinct-more done s = fold-append with_section [] done (s ∷ [])
