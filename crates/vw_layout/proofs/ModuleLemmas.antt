-- Modules: their functions ascend, and the first broken rule of the 36.
use Rattle.std.proofs.Common.{◌≡◌, ℕ, ◌+◌, ◌<◌, ◌^◌, ◌++◌, [], ◌∷◌, Bool, List, map, length, get_or, Option, Some, None, Result, Ok, Err, IfOk, IfErr, OnOk, refl, sym, ap, subst, ◌∙◌, arith}
use Rattle.std.specs.List.{position}
use Rattle.std.specs.Option.{option_or}
use Rattle.std.proofs.lemmas.List.{length-map, get_or-map}
use Rattle.std.proofs.lemmas.List.Elements.{All-get_or}
use Rattle.std.proofs.lemmas.List.Quantifiers.{position-Some}
use Rattle.vw_bits.specs.declared.records.Segment.{Segment}
use Rattle.vw_bits.specs.Headers.{segments_of}
use Rattle.vw_bits.specs.HeaderRules.{header_fault}
use Rattle.vw_bits.specs.Rules.{lowest_broken, AllHold, NamesBroken}
use Rattle.vw_bits.proofs.RuleLemmas.{lowest-shift}
use Rattle.vw_elf.specs.declared.sections.SymbolSection.{SymbolSection}
use Rattle.vw_bits.specs.Bounds.{AreBounded}
use Rattle.vw_dynamic.specs.Dynamic.{dynamic_fault, file_relocations}
use Rattle.vw_bits.proofs.BoundLemmas.{AreBounded-from_rules, length-from_rules, AreBounded-widen}
use Rattle.vw_image.specs.Image.{Contents, image_of, IsImage}
use Rattle.vw_layout.specs.Bounds.{IsShort, AreShort}
use Rattle.vw_layout.specs.Faults.{fault_in, Names, Tells}
use Rattle.vw_layout.specs.Symbols.{symbols_for, distinct_sections}
use Rattle.vw_layout.specs.Functions.{by_address, function_of, functions_of, function_rules}
use Rattle.vw_layout.specs.Tables.{table_rules, tables_of}
use Rattle.vw_layout.specs.Spans.{Ascend}
use Rattle.vw_layout.specs.Layout.{function_symbols, tables_symbols, declared_functions, declared_tables, import_rule, layout_fault, module_fault, IsModule, IsModuleOf, IsWhole}
use Rattle.vw_layout.specs.declared.symbols.SymbolEntry.{SymbolEntry}
use Rattle.vw_layout.specs.declared.symbols.Role.TheVariants as role
use Rattle.vw_layout.specs.declared.functions.Function.{Function}
use Rattle.vw_layout.specs.declared.layout.Module.{Module}
use Rattle.vw_layout.specs.declared.faults.ModuleError.{ModuleError}
use Rattle.vw_layout.specs.declared.faults.ModuleError.TheVariants.{Malformed, Memory}
use Rattle.vw_layout.proofs.AddressLemmas.{Rises-by_address, Rises-place, All-by_address}
use Rattle.vw_layout.proofs.DistinctLemmas.{AreAlike, alike_distinct, rules_alike, functions_alike, table_rules_alike, tables_alike}
use Rattle.vw_layout.proofs.ShortLemmas.{AreShort-from_rules}
use Rattle.vw_bits.proofs.FaultLemmas.{names_here, names_front, names_behind, holds_next, holds_append}

-- the segments of a file that meets rules 1 to 14
pub segments_low : (bytes : List ℕ) → header_fault bytes ≡ None → AreBounded (2 ^ 64) (segments_of bytes)
segments_low bytes headers =
    let few = length-from_rules bytes headers in
    AreBounded-widen (length bytes) (2 ^ 64) (segments_of bytes) (omega (arith, few)) (AreBounded-from_rules bytes headers)

pub segments_are : (image : Contents) → IsImage image → image.segments ≡ segments_of image.bytes
unfolding image_of
segments_are image is = ap (λ (i : Contents). i.segments) is.whole

pub relocations_are : (image : Contents) → IsImage image → image.relocations ≡ file_relocations image.bytes
unfolding image_of
relocations_are image is = ap (λ (i : Contents). i.relocations) is.whole

pub bytes_are : (bytes : List ℕ) → (image_of bytes).bytes ≡ bytes
unfolding image_of
bytes_are bytes = refl

pub file_relocations_are : (bytes : List ℕ) → (image_of bytes).relocations ≡ file_relocations bytes
unfolding image_of
file_relocations_are bytes = refl

-- declared functions ascend
entries_are : (bytes : List ℕ) (symbols : List SymbolEntry) → map (λ f. f.entry) (map (function_of bytes) symbols) ≡ map (λ s. s.symbol.value) symbols
entries_are bytes [] = refl
entries_are bytes (s ∷ symbols) = rw (entries_are bytes symbols) refl

pub functions_ascend : (bytes : List ℕ) (symbols : List SymbolEntry) → Ascend (functions_of bytes symbols)
unfolding functions_of
functions_ascend bytes symbols = rw (entries_are bytes (by_address symbols)) (Rises-by_address symbols)

-- a fault of the first rules, or of those behind them
names_first : (first rest told : Option (ℕ × ℕ)) → NamesBroken first told → NamesBroken (option_or first rest) told
names_first first rest (Some fault) names = rw names refl
names_first first rest None names = tt

names_rest : (first rest told : Option (ℕ × ℕ)) → first ≡ None → NamesBroken rest told → NamesBroken (option_or first rest) told
names_rest first rest told none names = rw none names

pub tells_first : (n : ℕ) (found rest : Option ℕ) (e : ModuleError) → Tells n found e → Tells n (option_or found rest) e
tells_first n found rest (Malformed rule offset) tells = (tells.0, rw tells.1 refl)
tells_first n found rest (Memory _) tells = tt

-- rules 27 to 36, group by group
module _ (bytes : List ℕ) where
  abbrev fs : List (Option ℕ)
  fs = function_rules bytes (segments_of bytes) (function_symbols bytes)

  abbrev ts : List (Option ℕ)
  ts = table_rules (image_of bytes) (declared_functions bytes) (tables_symbols bytes)

  abbrev late : Option ℕ
  late = import_rule (file_relocations bytes)

  five : 27 + length fs ≡ 32
  unfolding function_rules
  five = refl

  next_five : 1 + length fs ≡ 6
  unfolding function_rules
  next_five = refl

  nine : 27 + length (fs ++ ts) ≡ 36
  unfolding function_rules table_rules
  nine = refl

  pub in_functions : (e : ModuleError) → Names (lowest_broken 27 fs) e → Names (layout_fault bytes) e
  unfolding layout_fault
  in_functions e names = names_front 27 (fs ++ ts) (late ∷ []) (fault_in e) (names_front 27 fs ts (fault_in e) names)

  pub in_tables : (e : ModuleError) → AllHold fs → Names (lowest_broken 32 ts) e → Names (layout_fault bytes) e
  unfolding layout_fault
  in_tables e holds names = names_front 27 (fs ++ ts) (late ∷ []) (fault_in e) (names_behind 27 32 fs ts (fault_in e) holds five names)

  both : AllHold fs → AllHold ts → AllHold (fs ++ ts)
  both functions tables = holds_append 1 6 fs ts functions next_five (lowest-shift 1 6 ts tables)

  pub in_imports : (found : Option ℕ) (e : ModuleError) → AllHold fs → AllHold ts → found ≡ late → Tells 36 found e → Names (layout_fault bytes) e
  unfolding layout_fault
  in_imports found e functions tables is tells = names_behind 27 36 (fs ++ ts) (late ∷ []) (fault_in e) (both functions tables) nine (names_here 36 found late [] (fault_in e) is tells)

  pub none_broken : (found : Option ℕ) → AllHold fs → AllHold ts → found ≡ late → found ≡ None → layout_fault bytes ≡ None
  unfolding layout_fault
  none_broken found functions tables is none = holds_append 27 36 (fs ++ ts) (late ∷ []) (both functions tables) nine (holds_next 36 found late [] is none refl)

-- the same of equal bytes and segments, and of sections each of which is taken once
pub function_rules_same : (b b' : List ℕ) (s s' : List Segment) (x x' : List SymbolSection) → b ≡ b' → s ≡ s' → x ≡ distinct_sections x' → function_rules b s (symbols_for b x role.Function) ≡ function_rules b' s' (symbols_for b' x' role.Function)
function_rules_same b b' s s' x x' bytes segments sections =
    rw (bytes, segments, sections) (sym (rules_alike b' s' (symbols_for b' x' role.Function) (symbols_for b' (distinct_sections x') role.Function) (alike_distinct b' x' role.Function)))

pub functions_same : (b b' : List ℕ) (x x' : List SymbolSection) → b ≡ b' → x ≡ distinct_sections x' → functions_of b (symbols_for b x role.Function) ≡ functions_of b' (symbols_for b' x' role.Function)
functions_same b b' x x' bytes sections =
    rw (bytes, sections) (sym (functions_alike b' (symbols_for b' x' role.Function) (symbols_for b' (distinct_sections x') role.Function) (alike_distinct b' x' role.Function)))

pub tables_symbols_same : (b b' : List ℕ) (x x' : List SymbolSection) (symbols : List SymbolEntry) → b ≡ b' → x ≡ distinct_sections x' → symbols ≡ symbols_for b x role.Tables → AreAlike (symbols_for b' x' role.Tables) symbols
tables_symbols_same b b' x x' symbols bytes sections are =
    let same : symbols ≡ symbols_for b' (distinct_sections x') role.Tables = are ∙ rw (bytes, sections) refl in
    subst (λ (ys : List SymbolEntry). AreAlike (symbols_for b' x' role.Tables) ys) (sym same) (alike_distinct b' x' role.Tables)

pub table_rules_same : (i i' : Contents) (f f' : List Function) (s s' : List SymbolEntry) → i ≡ i' → f ≡ f' → AreAlike s' s → table_rules i f s ≡ table_rules i' f' s'
table_rules_same i i' f f' s s' image functions symbols = rw (image, functions) (sym (table_rules_alike i' f' s' s symbols))

pub tables_same : (i i' : Contents) (s s' : List SymbolEntry) → i ≡ i' → AreAlike s' s → tables_of i s ≡ tables_of i' s'
tables_same i i' s s' image symbols = rw image (sym (tables_alike i' s' s symbols))

-- the answer of the rules behind the first 26
pub module_of : (bytes : List ℕ) (image : Contents) (r : Result Module ModuleError) → image ≡ image_of bytes → header_fault bytes ≡ None → dynamic_fault bytes ≡ None → IfOk r (λ m. m.image ≡ image) → IfOk r (λ m. m.functions ≡ declared_functions image.bytes) → IfOk r (λ m. m.tables ≡ declared_tables image.bytes) → OnOk r (layout_fault image.bytes ≡ None) → IfOk r (IsModuleOf bytes)
unfolding module_fault
module_of bytes image (Ok m) is headers dynamic same functions tables layout =
    let whole : image.bytes ≡ bytes = ap (λ (i : Contents). i.bytes) is ∙ bytes_are bytes in
    record {
      rules = rw (headers, dynamic, ← whole) layout;
      functions = rw (← whole) functions;
      tables = rw (← whole) tables;
      image = same ∙ is;
    }
module_of bytes image (Err e) is headers dynamic same functions tables layout = tt

pub whole_of : (bytes : List ℕ) (r : Result Module ModuleError) → IfOk r (IsModuleOf bytes) → IfOk r IsWhole
whole_of bytes (Ok m) ok =
    let same : m.image.bytes ≡ bytes = ap (λ (i : Contents). i.bytes) ok.image ∙ bytes_are bytes in
    let P : List ℕ → Type 0 = λ bs. IsModuleOf bs m in
    subst P (sym same) ok
whole_of bytes (Err e) ok = tt

pub fault_of : (bytes : List ℕ) (image : Contents) (r : Result Module ModuleError) → image ≡ image_of bytes → header_fault bytes ≡ None → dynamic_fault bytes ≡ None → IfErr r (Names (layout_fault image.bytes)) → IfErr r (Names (module_fault bytes))
unfolding module_fault
fault_of bytes image (Ok m) is headers dynamic fault = tt
fault_of bytes image (Err e) is headers dynamic fault =
    let whole : image.bytes ≡ bytes = ap (λ (i : Contents). i.bytes) is ∙ bytes_are bytes in
    let layout : Names (layout_fault bytes) e = rw (← whole) fault in
    names_rest (header_fault bytes) _ (fault_in e) headers (names_rest (dynamic_fault bytes) (layout_fault bytes) (fault_in e) dynamic layout)

-- the error of the headers, or of the dynamic section, tells a fault of the module
pub header_names : (bytes lent : List ℕ) (e : ModuleError) (told : Option (ℕ × ℕ)) → lent ≡ bytes → fault_in e ≡ told → NamesBroken (header_fault lent) told → Names (module_fault bytes) e
unfolding module_fault
header_names bytes lent e told is tells names = rw tells (names_first (header_fault bytes) _ told (rw (← is) names))

pub dynamic_names : (bytes lent before : List ℕ) (e : ModuleError) (told : Option (ℕ × ℕ)) → before ≡ bytes → lent ≡ bytes → header_fault before ≡ None → fault_in e ≡ told → NamesBroken (dynamic_fault lent) told → Names (module_fault bytes) e
unfolding module_fault
dynamic_names bytes lent before e told was is headers tells names =
    rw tells (names_rest (header_fault bytes) _ told (rw (← was) headers) (names_first (dynamic_fault bytes) (layout_fault bytes) told (rw (← is) names)))

-- the place of a function in a module fits 32 bits
or_none : (first rest : Option (ℕ × ℕ)) → option_or first rest ≡ None → (first ≡ None) × (rest ≡ None)
or_none None rest none = (refl, none)
or_none (Some f) rest none = cc

front_holds : (n : ℕ) (front rules : List (Option ℕ)) → lowest_broken n (front ++ rules) ≡ None → lowest_broken n front ≡ None
front_holds n [] rules none = refl
front_holds n (None ∷ front) rules none = front_holds (n + 1) front rules none
front_holds n (Some at ∷ front) rules none = cc

functions_hold : (bytes : List ℕ) → layout_fault bytes ≡ None → AllHold (function_rules bytes (segments_of bytes) (function_symbols bytes))
unfolding layout_fault
functions_hold bytes none =
    let ts = table_rules (image_of bytes) (declared_functions bytes) (tables_symbols bytes) in
    let fs = function_rules bytes (segments_of bytes) (function_symbols bytes) in
    lowest-shift 27 1 fs (front_holds 27 fs ts (front_holds 27 (fs ++ ts) (import_rule (file_relocations bytes) ∷ []) none))

symbols_short : (bytes : List ℕ) → IsModule bytes → AreShort (function_symbols bytes)
unfolding module_fault
symbols_short bytes is =
    let first = or_none (header_fault bytes) (option_or (dynamic_fault bytes) (layout_fault bytes)) is in
    let second = or_none (dynamic_fault bytes) (layout_fault bytes) first.1 in
    AreShort-from_rules bytes (segments_of bytes) (function_symbols bytes) (segments_low bytes first.0) (functions_hold bytes second.1)

abbrev blank : SymbolEntry
blank = record { symbol = record { name = 0; info = 0; shndx = 0; value = 0; size = 0; at = 0 }; strings_at = 0; strings_size = 0 }

low_place : (bytes : List ℕ) (symbols : List SymbolEntry) (k : ℕ) → AreShort symbols → k < length (functions_of bytes symbols) → k < 2 ^ 32
unfolding functions_of
low_place bytes symbols k short inside =
    let firsts = by_address symbols in
    let count : length (map (function_of bytes) firsts) ≡ length firsts = length-map firsts (function_of bytes) in
    let within : k < length firsts = omega (arith, count, inside) in
    let value : SymbolEntry → ℕ = λ s. s.symbol.value in
    let addresses : length (map value firsts) ≡ length firsts = length-map firsts value in
    let above = Rises-place 0 (map value firsts) k (Rises-by_address symbols) (omega (arith, addresses, within)) in
    let same : get_or (map value firsts) k 0 ≡ (get_or firsts k blank).symbol.value = get_or-map value firsts k blank 0 within in
    let here : IsShort (get_or firsts k blank) = All-get_or IsShort firsts k blank within (All-by_address IsShort symbols short) in
    let low : (get_or firsts k blank).symbol.value < 2 ^ 32 = here.at in
    omega (arith, above, same, low)

pub none_function : Function
none_function = record { entry = 0; size = 0; name = [] }

pub place_fits : (bytes : List ℕ) (functions : List Function) (p : Function → Bool) (k : ℕ) → IsModule bytes → functions ≡ declared_functions bytes → position p functions ≡ Some k → k < 2 ^ 32
place_fits bytes functions p k is are found =
    let place = position-Some p functions k none_function found in
    let inside : k < length functions = place.0 in
    low_place bytes (function_symbols bytes) k (symbols_short bytes is) (rw (← are) inside)
