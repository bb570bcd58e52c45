-- The tables of a module, and rules 32 to 35. The symbol `lucet_tables` names a range of pairs of words, each
-- the address of a table and its number of entries. An entry of a table is a pair of words too: a tag and a
-- pointer to code.
use Rattle.std.specs.Prelude.{ℕ, ◌+◌, ◌*◌, ◌/◌, ◌%◌, Bool, true, false, not, ◌&&◌, ◌||◌, ◌==◌, nat_le, nat_lt, List, [], ◌∷◌, map, Option, Some, None, option_map, option_and_then, unwrap_or, slice_get}
use Rattle.std.specs.List.{find, list_any, flat_map}
use Rattle.std.specs.Option.{option_map_or, option_or}
use Rattle.vw_bits.specs.Headers.{table, is_readable, is_executable}
use Rattle.vw_bits.specs.Places.{in_file_part, file_offset}
use Rattle.vw_bits.specs.Rules.{unless}
use Rattle.vw_bits.specs.declared.records.Segment.{Segment}
use Rattle.vw_image.specs.Image.{Contents}
use Rattle.vw_image.specs.Words.{word_at}
use Rattle.vw_image.specs.declared.word.Word.{Word}
use Rattle.vw_image.specs.declared.word.Word.TheVariants.{Plain, Based, Bound, Mixed, Outside}
use Rattle.vw_layout.specs.Functions.{symbol_offset}
use Rattle.vw_layout.specs.Calls.{is_probe, is_ordinary, call_target}
use Rattle.vw_layout.specs.declared.symbols.SymbolEntry.{SymbolEntry}
use Rattle.vw_layout.specs.declared.functions.Function.{Function}
use Rattle.vw_layout.specs.declared.tables.TableInfo.{TableInfo}
use Rattle.vw_layout.specs.declared.tables.TableEntry.{TableEntry}

-- the first symbol of the tables, if there is one
abbrev pub first_of : List SymbolEntry → Option SymbolEntry
first_of symbols = slice_get symbols 0

-- a symbol of the tables has the value and the size of the first one, and a size of whole pairs, at most 64
abbrev pub agrees : SymbolEntry → SymbolEntry → Bool
agrees first s =
    s.symbol.value == first.symbol.value && s.symbol.size == first.symbol.size && s.symbol.size % 16 == 0 && nat_le s.symbol.size 1024

-- Rule 32: the first symbol of the tables that does not agree.
abbrev pub first_disagreeing : List SymbolEntry → Option SymbolEntry
first_disagreeing symbols = option_and_then (λ first. find (λ s. not (agrees first s)) symbols) (first_of symbols)

-- the addresses of the pairs that a symbol of the tables names
abbrev pub pairs_from : Option SymbolEntry → List ℕ
pairs_from None = []
pairs_from (Some s) = table s.symbol.value 16 (s.symbol.size / 16)

-- the pairs of a module; none where it has no symbol of the tables
unfoldable pub pairs_of : List SymbolEntry → List ℕ
pairs_of symbols = pairs_from (first_of symbols)

-- n bytes at an address are in the file part of a segment that is read
abbrev pub in_read_part : List Segment → ℕ → ℕ → Bool
in_read_part segments a n = list_any (λ s. is_readable s && in_file_part a n s) segments

-- and in that of one that is not executed
abbrev pub in_data_part : List Segment → ℕ → ℕ → Bool
in_data_part segments a n = list_any (λ s. is_readable s && not (is_executable s) && in_file_part a n s) segments

-- the file offset of the sixteen bytes of a pair or an entry, which are in the file part of a segment
abbrev pub file_place : List Segment → ℕ → ℕ
file_place segments a = unwrap_or (file_offset segments a 16) 0

-- the file offset of the first pair or entry that breaks a rule
abbrev pub place_of : List Segment → Option ℕ → Option ℕ
place_of segments address = option_map (file_place segments) address

-- the eight bytes at an address after relocation
abbrev pub word : Contents → ℕ → Word
word image a = word_at image a 8

abbrev pub is_based : Word → Bool
is_based (Plain number) = false
is_based (Based address) = true
is_based (Bound number) = false
is_based Mixed = false
is_based Outside = false

-- the address that a based word names, counted from the load address
abbrev pub address_in : Word → ℕ
address_in (Plain number) = 0
address_in (Based address) = address
address_in (Bound number) = 0
address_in Mixed = 0
address_in Outside = 0

-- a plain word of a number that passes
abbrev pub is_plain : (ℕ → Bool) → Word → Bool
is_plain passes (Plain number) = passes number
is_plain passes (Based address) = false
is_plain passes (Bound number) = false
is_plain passes Mixed = false
is_plain passes Outside = false

-- the number of a plain word
abbrev pub number_in : Word → ℕ
number_in (Plain number) = number
number_in (Based address) = 0
number_in (Bound number) = 0
number_in Mixed = 0
number_in Outside = 0

-- a table has at most 65,536 entries
abbrev pub is_length : ℕ → Bool
is_length number = nat_le number 65536

-- Rule 33: the address word of a pair is based, and its length word is plain and at most 65,536.
abbrev pub is_pair : Contents → ℕ → Bool
is_pair image pair = is_based (word image pair) && is_plain is_length (word image (pair + 8))

-- the address of the table that a pair names, and its number of entries
abbrev pub table_address : Contents → ℕ → ℕ
table_address image pair = address_in (word image pair)

abbrev pub table_length : Contents → ℕ → ℕ
table_length image pair = number_in (word image (pair + 8))

-- Rule 33, of the range of the pairs: the symbol, where it is not in the file part of a segment that is read.
abbrev pub range_rule : List Segment → Option SymbolEntry → Option ℕ
range_rule segments None = None
range_rule segments (Some s) = unless (in_read_part segments s.symbol.value s.symbol.size) s.symbol.at

-- Rule 34: a table is in the file part of a segment that is read and not executed.
abbrev pub is_table : Contents → ℕ → Bool
is_table image pair = in_data_part image.segments (table_address image pair) (16 * table_length image pair)

-- the addresses of the entries of the table that a pair names
abbrev pub entries_from : Contents → ℕ → List ℕ
entries_from image pair = table (table_address image pair) 16 (table_length image pair)

-- the tag of an empty entry
abbrev pub is_empty_tag : ℕ → Bool
is_empty_tag number = number == 0xFFFF_FFFF_FFFF_FFFF

abbrev pub is_tag : ℕ → Bool
is_tag number = nat_lt number 0xFFFF_FFFF || is_empty_tag number

-- a declared function or a stub is at an address, and no stub of the probe
abbrev pub is_callable : Contents → List Function → ℕ → Bool
is_callable image functions address = option_map_or is_ordinary (call_target image functions address) false

-- the pointer of an entry that is not empty
abbrev pub is_pointer : Contents → List Function → Word → Bool
is_pointer image functions (Plain number) = false
is_pointer image functions (Based address) = is_callable image functions address
is_pointer image functions (Bound number) = not (is_probe image.imports number)
is_pointer image functions Mixed = false
is_pointer image functions Outside = false

-- Rule 35: the tag of an entry is plain and below 2^32 - 1 or that of an empty entry, and the pointer of one
-- that is not empty is based on a declared function or a stub, or bound to an import, and not to the probe.
abbrev pub is_table_entry : Contents → List Function → ℕ → Bool
is_table_entry image functions entry =
    is_plain is_tag (word image entry)
    && (is_plain is_empty_tag (word image entry) || is_pointer image functions (word image (entry + 8)))

-- Rules 33 to 35, for the pairs at these addresses.
abbrev pub pair_rule : Contents → List ℕ → Option ℕ
pair_rule image pairs = place_of image.segments (find (λ pair. not (is_pair image pair)) pairs)

abbrev pub table_rule : Contents → List ℕ → Option ℕ
table_rule image pairs = place_of image.segments (find (λ pair. not (is_table image pair)) pairs)

abbrev pub entry_rule : Contents → List Function → List ℕ → Option ℕ
entry_rule image functions pairs =
    place_of image.segments (find (λ entry. not (is_table_entry image functions entry)) (flat_map (entries_from image) pairs))

-- Rules 32 to 35, for the symbols of the tables.
unfoldable pub table_rules : Contents → List Function → List SymbolEntry → List (Option ℕ)
table_rules image functions symbols =
    symbol_offset (first_disagreeing symbols)
    ∷ option_or (range_rule image.segments (first_of symbols)) (pair_rule image (pairs_of symbols))
    ∷ table_rule image (pairs_of symbols)
    ∷ entry_rule image functions (pairs_of symbols)
    ∷ []

-- the entry of a table at an address
unfoldable pub table_entry_at : Contents → ℕ → TableEntry
table_entry_at image entry = record { tag = number_in (word image entry); pointer = word image (entry + 8) }

-- the table that a pair names
unfoldable pub table_at : Contents → ℕ → TableInfo
table_at image pair = record { address = table_address image pair; entries = map (table_entry_at image) (entries_from image pair) }

-- The tables of a module, by their pairs.
unfoldable pub tables_of : Contents → List SymbolEntry → List TableInfo
tables_of image symbols = map (table_at image) (pairs_of symbols)
