-- One turn of each loop that appends the bytes of an item.
use Rattle.std.proofs.Common.{◌≡◌, ◌∙◌, ℕ, ◌+◌, ◌*◌, ◌<◌, Bool, true, false, List, [], ◌∷◌, ◌++◌, Option, length, take, get_or, codes, append-nil, append_assoc, sym, ap, if◌then◌else◌}
use Rattle.std.specs.List.{flat_map}
use Rattle.std.proofs.lemmas.List.{flat_map_more, take_more}
use Rattle.std.proofs.lemmas.List.Concat.{flat_map-append}
use Rattle.vw_make.specs.declared.parts.Parts.{Parts}
use Rattle.vw_make.specs.declared.parts.Func.{Func}
use Rattle.vw_make.specs.declared.layout.Layout.{Layout}
use Rattle.vw_make.specs.Bytes.{counted, numbered, padded}
use Rattle.vw_make.specs.Layout.{strings_size, function_names, has_table, function_at, table_at}
use Rattle.vw_make.specs.Records.{symbol}
use Rattle.vw_make.specs.Relocations.{relative, pair_relocation}
use Rattle.vw_make.specs.Symbols.{string, strings, string_table, name_at, null_symbol, import_symbol, function_symbol, function_symbols, tables_symbol, symbols, symbol_names}
use Rattle.vw_make.specs.Text.{fixed_code, function_text}
use Rattle.vw_make.proofs.Pieces.{appended, counted_more, numbered_more}
use Rattle.vw_make.proofs.Places.{name_at_is}

-- the pieces of a numbered item, whose bytes were worked out from other values
pub counted_step : (f : ℕ → List ℕ) (i : ℕ) (old now new piece : List ℕ) → now ≡ old ++ counted f i → new ≡ now ++ piece → piece ≡ f i → new ≡ old ++ counted f (i + 1)
counted_step f i old now new piece before added same =
    appended old now new (counted f i) piece (counted f (i + 1)) before added (counted_more f i ∙ ap (λ (p : List ℕ). counted f i ++ p) (sym same))

pub numbered_step : {X : Type 0} (f : ℕ → X → List ℕ) (xs : List X) (i : ℕ) (d : X) (old now new piece : List ℕ) → i < length xs → now ≡ old ++ numbered f 0 (take i xs) → new ≡ now ++ piece → piece ≡ f i (get_or xs i d) → new ≡ old ++ numbered f 0 (take (i + 1) xs)
numbered_step f xs i d old now new piece inside before added same =
    appended old now new (numbered f 0 (take i xs)) piece (numbered f 0 (take (i + 1) xs)) before added
    (numbered_more f xs i d inside ∙ ap (λ (p : List ℕ). numbered f 0 (take i xs) ++ p) (sym same))

-- an import's symbol, from the offset of its name
pub import_piece : (imports : List (List ℕ)) (i name : ℕ) → name ≡ strings_size (take i imports) → symbol name 0x12 0 0 0 ≡ import_symbol imports i
import_piece imports i name e = ap (λ (n : ℕ). symbol n 0x12 0 0 0) e

-- a function's symbol, from the values of its fields
pub function_piece : (functions : List Func) (layout : Layout) (i name value size : ℕ) (f : Func) → name ≡ strings_size (function_names (take i functions)) → value ≡ function_at functions layout i → size ≡ length f.code → f ≡ get_or functions i f
    → symbol name 0x12 1 value size ≡ function_symbol functions layout i (get_or functions i f)
function_piece functions layout i name value size f named placed sized here =
    ap (λ (n : ℕ). symbol n 0x12 1 value size) (named ∙ sym (name_at_is functions i))
    ∙ (ap (λ (v : ℕ). symbol (name_at (function_names functions) i) 0x12 1 v size) placed
    ∙ ap (λ (n : ℕ). symbol (name_at (function_names functions) i) 0x12 1 (function_at functions layout i) n) (sized ∙ ap (λ (g : Func). length g.code) here))

-- a pair's relocation, from its places
pub pair_piece : (tables : List (List (ℕ × Option ℕ))) (layout : Layout) (i pair table : ℕ) → pair ≡ layout.lucet_tables + 16 * i → table ≡ table_at tables layout i → relative pair table ≡ pair_relocation tables layout i
pair_piece tables layout i pair table e f = ap (λ (p : ℕ). relative p table) e ∙ ap (λ (t : ℕ). relative (layout.lucet_tables + 16 * i) t) f

-- a function in the text, from its code with the fixes
pub text_piece : (functions : List Func) (layout : Layout) (i at : ℕ) (f : Func) (code out : List ℕ) → at ≡ function_at functions layout i → f ≡ get_or functions i f → code ≡ fixed_code functions layout at f → out ≡ padded 16 0xCC code
    → out ≡ function_text functions layout i (get_or functions i f)
text_piece functions layout i at f code out placed here fixed filled =
    filled
    ∙ ap (λ (bytes : List ℕ). padded 16 0xCC bytes) (fixed ∙ (ap (λ (a : ℕ). fixed_code functions layout a f) placed ∙ ap (λ (g : Func). fixed_code functions layout (function_at functions layout i) g) here))

-- symbols and their names, with and without a table
pub symbols_with : (parts : Parts) (layout : Layout) (old : List ℕ) → has_table parts ≡ true → ((old ++ null_symbol) ++ function_symbols parts.functions layout) ++ tables_symbol parts layout ≡ old ++ symbols parts layout
unfolding symbols
symbols_with parts layout old some =
    simp append_assoc (ap (λ (b : Bool). old ++ (null_symbol ++ (function_symbols parts.functions layout ++ (if b then tables_symbol parts layout else [])))) (sym some))

pub symbols_without : (parts : Parts) (layout : Layout) (old : List ℕ) → has_table parts ≡ false → (old ++ null_symbol) ++ function_symbols parts.functions layout ≡ old ++ symbols parts layout
unfolding symbols
symbols_without parts layout old none =
    ap (λ (bytes : List ℕ). bytes) (sym (append-nil ((old ++ null_symbol) ++ function_symbols parts.functions layout)))
    ∙ simp append_assoc (ap (λ (b : Bool). old ++ (null_symbol ++ (function_symbols parts.functions layout ++ (if b then tables_symbol parts layout else [])))) (sym none))

pub names_with : (parts : Parts) (old : List ℕ) → has_table parts ≡ true → ((old ++ 0 ∷ []) ++ strings (function_names parts.functions)) ++ string (codes "lucet_tables") ≡ old ++ string_table (symbol_names parts)
unfolding string_table
names_with parts old some =
    simp append_assoc
    (ap (λ (bytes : List ℕ). old ++ (0 ∷ bytes)) (sym (flat_map-append string (function_names parts.functions) (codes "lucet_tables" ∷ [])))
    ∙ ap (λ (b : Bool). old ++ (0 ∷ strings (function_names parts.functions ++ (if b then codes "lucet_tables" ∷ [] else [])))) (sym some))

pub names_without : (parts : Parts) (old : List ℕ) → has_table parts ≡ false → (old ++ 0 ∷ []) ++ strings (function_names parts.functions) ≡ old ++ string_table (symbol_names parts)
unfolding string_table
names_without parts old none =
    append_assoc old (0 ∷ []) (strings (function_names parts.functions))
    ∙ (ap (λ (names : List (List ℕ)). old ++ (0 ∷ strings names)) (sym (append-nil (function_names parts.functions)))
    ∙ ap (λ (b : Bool). old ++ (0 ∷ strings (function_names parts.functions ++ (if b then codes "lucet_tables" ∷ [] else [])))) (sym none))

pub flat_map_step : {X : Type 0} (f : X → List ℕ) (xs : List X) (i : ℕ) (d : X) (old now new piece : List ℕ) → i < length xs → now ≡ old ++ flat_map f (take i xs) → new ≡ now ++ piece → piece ≡ f (get_or xs i d) → new ≡ old ++ flat_map f (take (i + 1) xs)
flat_map_step {X} f xs i d old now new piece inside before added same =
    added
    ∙ (ap (λ (bytes : List ℕ). bytes ++ piece) before
    ∙ (ap (λ (p : List ℕ). (old ++ flat_map f (take i xs)) ++ p) same
    ∙ (flat_map_more f old (take i xs) (get_or xs i d) ∙ ap (λ (ys : List X). old ++ flat_map f ys) (sym (take_more xs i d inside)))))

-- the symbol of `lucet_tables`, from the values of its fields
pub tables_piece : (parts : Parts) (layout : Layout) (name count : ℕ) (bytes : List ℕ) → name ≡ strings_size (function_names parts.functions) → count ≡ length parts.tables
    → bytes ++ symbol name 0x11 1 layout.lucet_tables (16 * count) ≡ bytes ++ tables_symbol parts layout
unfolding tables_symbol
tables_piece parts layout name count bytes named counted' =
    ap (λ (n : ℕ). bytes ++ symbol n 0x11 1 layout.lucet_tables (16 * count)) named
    ∙ ap (λ (n : ℕ). bytes ++ symbol (strings_size (function_names parts.functions)) 0x11 1 layout.lucet_tables (16 * n)) counted'
