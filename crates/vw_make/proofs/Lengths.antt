-- How long the pieces of a file are, and the file itself.
use Rattle.std.proofs.Common.{◌≡◌, ◌∙◌, ℕ, zero, suc, ◌+◌, ◌-◌, ◌*◌, ◌≤◌, Bool, true, false, List, [], ◌∷◌, ◌++◌, Option, Some, None, length, replicate, codes, refl, sym, ap, length-append, lit≤, arith, if◌then◌else◌}
use Rattle.std.specs.List.{sum_by, flat_map}
use Rattle.std.specs.Option.{is_some}
use Rattle.std.proofs.Math.ListN.{length-replicate}
use Rattle.std.proofs.Math.Nat.{mul-suc, mul-zero, mul-add}
use Rattle.std.proofs.lemmas.List.Sums.{sum_by-cons, sum_by-append}
use Rattle.vw_make.specs.declared.parts.Parts.{Parts}
use Rattle.vw_make.specs.declared.parts.Func.{Func}
use Rattle.vw_make.specs.declared.sizes.Sizes.{Sizes}
use Rattle.vw_make.specs.declared.layout.Layout.{Layout}
use Rattle.vw_make.specs.Bytes.{zeros, rounded_up, filled_to, padded, counted, numbered}
use Rattle.vw_make.specs.Records.{file_header, program_header, symbol, relocation, dynamic_entry, section_header}
use Rattle.vw_make.specs.Layout.{strings_size, function_names, function_space, has_table, filled_entries, relocation_count, symbol_count, symbol_strings_size, sizes_of, layout_of, file_size, function_at, table_at}
use Rattle.vw_make.specs.Symbols.{string, string_table, null_symbol, import_symbol, import_symbols, dynamic_symbols, function_symbol, function_symbols, tables_symbol, symbols, symbol_names}
use Rattle.vw_make.specs.Relocations.{slot_relocation, pair_relocation, entry_relocation, table_relocations, bind_relocation, slot_relocations, pair_relocations, entry_relocations, bind_relocations, relocations}
use Rattle.vw_make.specs.Text.{fix_field, fixed_code, function_text, function_texts, stub_text, stub_texts, text}
use Rattle.vw_make.specs.Tables.{slots, pair, pairs, entry, table, tables, bound_content, padded_content, dynamic_section}
use Rattle.vw_make.specs.Module.{program_headers, section_headers, front, with_text, with_dynamic, file_of, module_bytes}
use Rattle.vw_make.proofs.FieldLemmas.{length-with_fields}
use Rattle.vw_make.proofs.Places.{AreOrdered, AreSizesOf, are_ordered, are_sizes, rounded_up_ge}

-- counts and sums

length-counted : (f : ℕ → List ℕ) (size : ℕ) → ((k : ℕ) → length (f k) ≡ size) → (n : ℕ) → length (counted f n) ≡ size * n
length-counted f size each zero = sym (mul-zero size)
length-counted f size each (suc n) = length-append (counted f n) (f n) ∙ omega (arith, length-counted f size each n, each n, mul-suc size n)

length-numbered : {X : Type 0} (f : ℕ → X → List ℕ) (size : X → ℕ) → ((k : ℕ) (x : X) → length (f k x) ≡ size x) → (n : ℕ) (xs : List X) → length (numbered f n xs) ≡ sum_by size xs
length-numbered f size each n [] = refl
length-numbered f size each n (x ∷ xs) = length-append (f n x) (numbered f (n + 1) xs) ∙ omega (arith, length-numbered f size each (n + 1) xs, each n x, sum_by-cons size x xs)

length-joined : {X : Type 0} (f : X → List ℕ) (size : X → ℕ) → ((x : X) → length (f x) ≡ size x) → (xs : List X) → length (flat_map f xs) ≡ sum_by size xs
length-joined f size each [] = refl
length-joined f size each (x ∷ xs) = length-append (f x) (flat_map f xs) ∙ omega (arith, length-joined f size each xs, each x, sum_by-cons size x xs)

sum_by_times : {X : Type 0} (c : ℕ) (f : X → ℕ) (xs : List X) → sum_by (λ (x : X). c * f x) xs ≡ c * sum_by f xs
sum_by_times c f [] = sym (mul-zero c)
sum_by_times {X} c f (x ∷ xs) = omega (arith, sum_by-cons (λ (y : X). c * f y) x xs, sum_by-cons f x xs, sum_by_times c f xs, ap (λ (n : ℕ). c * n) (sum_by-cons f x xs), mul-add c (f x) (sum_by f xs))

sum_by_same : {X : Type 0} (c : ℕ) (xs : List X) → sum_by (λ (x : X). c) xs ≡ c * length xs
sum_by_same c [] = sym (mul-zero c)
sum_by_same {X} c (x ∷ xs) = omega (arith, sum_by-cons (λ (y : X). c) x xs, sum_by_same c xs, mul-suc c (length xs))

length-filled_to : (at : ℕ) (bytes : List ℕ) → length bytes ≤ at → length (filled_to at bytes) ≡ at
length-filled_to at bytes fits = omega (arith, length-append bytes (zeros (at - length bytes)), length-replicate {A = ℕ} (at - length bytes) 0)

length-padded : (align filler : ℕ) (bytes : List ℕ) → 1 ≤ align → length (padded align filler bytes) ≡ rounded_up align (length bytes)
length-padded align filler bytes some =
    omega (arith, length-append bytes (replicate (rounded_up align (length bytes) - length bytes) filler), length-replicate {A = ℕ} (rounded_up align (length bytes) - length bytes) filler, rounded_up_ge align (length bytes) some)

-- records

length-symbol : (name info section value size : ℕ) → length (symbol name info section value size) ≡ 24
unfolding symbol
length-symbol name info section value size = refl

length-relocation : (offset type' index addend : ℕ) → length (relocation offset type' index addend) ≡ 24
unfolding relocation
length-relocation offset type' index addend = refl

length-headers : (sections : ℕ) (layout : Layout) → length (file_header sections ++ program_headers layout) ≡ 232
unfolding file_header program_headers program_header
length-headers sections layout = refl

length-dynamic_section : (size : Sizes) (layout : Layout) → length (dynamic_section size layout) ≡ 128
unfolding dynamic_section dynamic_entry
length-dynamic_section size layout = refl

length-section_headers : (size : Sizes) (layout : Layout) → length (section_headers size layout) ≡ 192
unfolding section_headers section_header
length-section_headers size layout = refl

-- the parts

length-string_table : (names : List (List ℕ)) → length (string_table names) ≡ strings_size names
unfolding string_table
length-string_table names =
    let each = length-joined string (λ (name : List ℕ). length name + 1) (λ name. length-append name (0 ∷ [])) names in
    omega (arith, each)

length-dynamic_symbols : (imports : List (List ℕ)) → length (dynamic_symbols imports) ≡ 24 * (1 + length imports)
unfolding dynamic_symbols import_symbols
length-dynamic_symbols imports =
    omega (arith, length-append null_symbol (counted (import_symbol imports) (length imports)), length-symbol 0 0 0 0 0, length-counted (import_symbol imports) 24 (λ k. length-symbol _ _ _ _ _) (length imports))

length-entry : (functions : List Func) (layout : Layout) (at : ℕ) (item : ℕ × Option ℕ) → length (entry_relocation functions layout at item) ≡ 24 * (if is_some item.1 then 1 else 0)
length-entry functions layout at (tag, None) = refl
length-entry functions layout at (tag, Some function) = length-relocation _ _ _ _

length-table : (functions : List Func) (layout : Layout) (at : ℕ) (entries : List (ℕ × Option ℕ)) → length (table_relocations functions layout at entries) ≡ 24 * filled_entries entries
unfolding table_relocations
length-table functions layout at entries =
    length-numbered (λ (number : ℕ) (item : ℕ × Option ℕ). entry_relocation functions layout (at + 16 * number) item) (λ (item : ℕ × Option ℕ). 24 * (if is_some item.1 then 1 else 0)) (λ k item. length-entry functions layout (at + 16 * k) item) 0 entries
    ∙ sum_by_times 24 (λ (item : ℕ × Option ℕ). if is_some item.1 then 1 else 0) entries

length-slot_relocations : (imports : List (List ℕ)) (layout : Layout) → length (slot_relocations imports layout) ≡ 24 * length imports
unfolding slot_relocations
length-slot_relocations imports layout = length-counted (slot_relocation layout) 24 (λ k. length-relocation _ _ _ _) (length imports)

length-pair_relocations : (tables : List (List (ℕ × Option ℕ))) (layout : Layout) → length (pair_relocations tables layout) ≡ 24 * length tables
unfolding pair_relocations
length-pair_relocations tables layout = length-counted (pair_relocation tables layout) 24 (λ k. length-relocation _ _ _ _) (length tables)

length-entry_relocations : (functions : List Func) (tables : List (List (ℕ × Option ℕ))) (layout : Layout) → length (entry_relocations functions tables layout) ≡ 24 * sum_by filled_entries tables
unfolding entry_relocations
length-entry_relocations functions tables layout =
    length-numbered (λ (number : ℕ) (entries : List (ℕ × Option ℕ)). table_relocations functions layout (table_at tables layout number) entries) (λ (entries : List (ℕ × Option ℕ)). 24 * filled_entries entries)
    (λ k entries. length-table functions layout (table_at tables layout k) entries) 0 tables
    ∙ sum_by_times 24 filled_entries tables

length-bind_relocations : (binds : List (ℕ × ℕ)) (layout : Layout) → length (bind_relocations binds layout) ≡ 24 * length binds
unfolding bind_relocations
length-bind_relocations binds layout = length-joined (bind_relocation layout) (λ (bind : ℕ × ℕ). 24) (λ bind. length-relocation _ _ _ _) binds ∙ sum_by_same 24 binds

length-relocations : (parts : Parts) (layout : Layout) → length (relocations parts layout) ≡ 24 * relocation_count parts
unfolding relocations
length-relocations parts layout =
    omega (
      arith,
      length-append (slot_relocations parts.imports layout ++ pair_relocations parts.tables layout ++ entry_relocations parts.functions parts.tables layout) (bind_relocations parts.binds layout),
      length-append (slot_relocations parts.imports layout ++ pair_relocations parts.tables layout) (entry_relocations parts.functions parts.tables layout),
      length-append (slot_relocations parts.imports layout) (pair_relocations parts.tables layout),
      length-slot_relocations parts.imports layout,
      length-pair_relocations parts.tables layout,
      length-entry_relocations parts.functions parts.tables layout,
      length-bind_relocations parts.binds layout,
    )

length-function_text : (functions : List Func) (layout : Layout) (k : ℕ) (f : Func) → length (function_text functions layout k f) ≡ function_space f
unfolding fixed_code
length-function_text functions layout k f =
    length-padded 16 0xCC (fixed_code functions layout (function_at functions layout k) f) (lit≤ tt)
    ∙ ap (λ (n : ℕ). rounded_up 16 n) (length-with_fields (fix_field functions layout (function_at functions layout k)) 4 f.fixes f.code)

length-stub_text : (layout : Layout) (k : ℕ) → length (stub_text layout k) ≡ 16
unfolding rounded_up
length-stub_text layout k = refl

length-text : (parts : Parts) (layout : Layout) → length (text parts layout) ≡ sum_by function_space parts.functions + 16 * length parts.imports
unfolding text function_texts stub_texts
length-text parts layout =
    omega (
      arith,
      length-append (numbered (function_text parts.functions layout) 0 parts.functions) (counted (stub_text layout) (length parts.imports)),
      length-numbered (function_text parts.functions layout) function_space (length-function_text parts.functions layout) 0 parts.functions,
      length-counted (stub_text layout) 16 (length-stub_text layout) (length parts.imports),
    )

length-pairs : (tables : List (List (ℕ × Option ℕ))) → length (pairs tables) ≡ 16 * length tables
unfolding pairs
length-pairs tables = length-joined pair (λ (entries : List (ℕ × Option ℕ)). 16) (λ entries. refl) tables ∙ sum_by_same 16 tables

length-item : (item : ℕ × Option ℕ) → length (entry item) ≡ 16
length-item (tag, None) = refl
length-item (tag, Some function) = refl

length-entries : (entries : List (ℕ × Option ℕ)) → length (table entries) ≡ 16 * length entries
unfolding table
length-entries entries = length-joined entry (λ (item : ℕ × Option ℕ). 16) length-item entries ∙ sum_by_same 16 entries

length-tables : (all : List (List (ℕ × Option ℕ))) → length (tables all) ≡ 16 * sum_by length all
unfolding tables
length-tables all = length-joined table (λ (entries : List (ℕ × Option ℕ)). 16 * length entries) length-entries all ∙ sum_by_times 16 length all

length-padded_content : (parts : Parts) → length (padded_content parts) ≡ rounded_up 8 (length parts.content)
unfolding padded_content bound_content
length-padded_content parts =
    length-padded 8 0 (bound_content parts) (lit≤ tt)
    ∙ ap (λ (n : ℕ). rounded_up 8 n) (length-with_fields (λ (bind : ℕ × ℕ). zeros 8) 8 parts.binds parts.content)

length-slots : (imports : List (List ℕ)) → length (slots imports) ≡ 8 * length imports
unfolding slots
length-slots imports = length-replicate {A = ℕ} (8 * length imports) 0

choice_length : (b : Bool) (bytes : List ℕ) → length bytes ≡ 24 → length (if b then bytes else []) ≡ 24 * (if b then 1 else 0)
choice_length true bytes sized = sized
choice_length false bytes sized = refl

length-tables_symbol : (parts : Parts) (layout : Layout) → length (tables_symbol parts layout) ≡ 24
unfolding tables_symbol
length-tables_symbol parts layout = length-symbol _ _ _ _ _

length-symbols : (parts : Parts) (layout : Layout) → length (symbols parts layout) ≡ 24 * symbol_count parts
unfolding symbols function_symbols
length-symbols parts layout =
    omega (
      arith,
      length-append (null_symbol ++ numbered (function_symbol parts.functions layout) 0 parts.functions) (if has_table parts then tables_symbol parts layout else []),
      length-append null_symbol (numbered (function_symbol parts.functions layout) 0 parts.functions),
      length-symbol 0 0 0 0 0,
      length-numbered (function_symbol parts.functions layout) (λ (f : Func). 24) (λ k f. length-symbol _ _ _ _ _) 0 parts.functions,
      sum_by_same 24 parts.functions,
      choice_length (has_table parts) (tables_symbol parts layout) (length-tables_symbol parts layout),
    )

choice_size : (b : Bool) (names : List (List ℕ)) → strings_size (names ++ (if b then codes "lucet_tables" ∷ [] else [])) ≡ strings_size names + (if b then 13 else 0)
choice_size true names = omega (arith, sum_by-append (λ (name : List ℕ). length name + 1) names (codes "lucet_tables" ∷ []))
choice_size false names = omega (arith, sum_by-append (λ (name : List ℕ). length name + 1) names [])

length-symbol_strings : (parts : Parts) → length (string_table (symbol_names parts)) ≡ symbol_strings_size parts
length-symbol_strings parts = length-string_table (symbol_names parts) ∙ choice_size (has_table parts) (function_names parts.functions)

-- the file

length-front : (parts : Parts) (layout : Layout) → length (front parts layout) ≡ 232 + 24 * (1 + length parts.imports) + strings_size parts.imports
unfolding front
length-front parts layout =
    omega (
      arith,
      length-append (file_header layout.sections ++ program_headers layout ++ dynamic_symbols parts.imports) (string_table parts.imports),
      length-append (file_header layout.sections ++ program_headers layout) (dynamic_symbols parts.imports),
      length-headers layout.sections layout,
      length-dynamic_symbols parts.imports,
      length-string_table parts.imports,
    )

length-with_text : (parts : Parts) (size : Sizes) (layout : Layout) → AreSizesOf parts size → AreOrdered size layout → length (with_text parts layout) ≡ layout.text_end
unfolding with_text
length-with_text parts size layout sizes ordered =
    let one = length-filled_to layout.relocations (front parts layout) (omega (arith, length-front parts layout)) in
    let two : length (filled_to layout.relocations (front parts layout) ++ relocations parts layout) ≡ layout.relocations + size.relocations =
    omega (arith, one, length-append (filled_to layout.relocations (front parts layout)) (relocations parts layout), length-relocations parts layout, sizes.relocations) in
    let three = length-filled_to layout.text (filled_to layout.relocations (front parts layout) ++ relocations parts layout) (omega (arith, two)) in
    omega (arith, three, length-append (filled_to layout.text (filled_to layout.relocations (front parts layout) ++ relocations parts layout)) (text parts layout), length-text parts layout, sizes.functions, sizes.imports)

length-with_dynamic : (parts : Parts) (size : Sizes) (layout : Layout) → AreSizesOf parts size → AreOrdered size layout → length (with_dynamic parts size layout) ≡ layout.symbols
unfolding with_dynamic
length-with_dynamic parts size layout sizes ordered =
    let one = length-filled_to layout.slots (with_text parts layout) (omega (arith, length-with_text parts size layout sizes ordered)) in
    omega (
      arith,
      one,
      length-append (filled_to layout.slots (with_text parts layout) ++ slots parts.imports ++ pairs parts.tables ++ tables parts.tables ++ padded_content parts) (dynamic_section size layout),
      length-append (filled_to layout.slots (with_text parts layout) ++ slots parts.imports ++ pairs parts.tables ++ tables parts.tables) (padded_content parts),
      length-append (filled_to layout.slots (with_text parts layout) ++ slots parts.imports ++ pairs parts.tables) (tables parts.tables),
      length-append (filled_to layout.slots (with_text parts layout) ++ slots parts.imports) (pairs parts.tables),
      length-append (filled_to layout.slots (with_text parts layout)) (slots parts.imports),
      length-slots parts.imports,
      length-pairs parts.tables,
      length-tables parts.tables,
      length-padded_content parts,
      length-dynamic_section size layout,
      sizes.imports,
      sizes.tables,
      sizes.entries,
      sizes.content,
    )

length-file_of : (parts : Parts) (size : Sizes) (layout : Layout) → AreSizesOf parts size → AreOrdered size layout → length (file_of parts size layout) ≡ layout.sections + 192
unfolding file_of
length-file_of parts size layout sizes ordered =
    let one : length (with_dynamic parts size layout ++ symbols parts layout ++ string_table (symbol_names parts)) ≡ layout.strings + size.strings =
    omega (
      arith,
      length-append (with_dynamic parts size layout ++ symbols parts layout) (string_table (symbol_names parts)),
      length-append (with_dynamic parts size layout) (symbols parts layout),
      length-with_dynamic parts size layout sizes ordered,
      length-symbols parts layout,
      length-symbol_strings parts,
      sizes.symbols,
      sizes.strings,
    ) in
    let two = length-filled_to layout.sections (with_dynamic parts size layout ++ symbols parts layout ++ string_table (symbol_names parts)) (omega (arith, one)) in
    omega (arith, two, length-append (filled_to layout.sections (with_dynamic parts size layout ++ symbols parts layout ++ string_table (symbol_names parts))) (section_headers size layout), length-section_headers size layout)

pub length-module_bytes : (parts : Parts) → length (module_bytes parts) ≡ file_size parts
unfolding module_bytes
length-module_bytes parts = length-file_of parts (sizes_of parts) (layout_of parts) (are_sizes parts) (are_ordered (sizes_of parts))
