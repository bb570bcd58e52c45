-- When a level of row numbers agrees with the rows. Each test goes over all that a level is read by.
use Rattle.std.specs.Prelude.{ℕ, zero, suc, ◌+◌, ◌-◌, ◌==◌, nat_lt, Bool, true, false, ◌&&◌, if◌then◌else◌, Option, None, Some, List, [], ◌∷◌, find, filter, slice_get}
use Rattle.vw_rows.specs.declared.patterns.Prefix.{Prefix}
use Rattle.vw_rows.specs.declared.patterns.Prefix.TheVariants.{Plain, P66, PF2, PF3}
use Rattle.vw_rows.specs.declared.patterns.Map.{Map}
use Rattle.vw_rows.specs.declared.patterns.Map.TheVariants.{One, Two}
use Rattle.vw_rows.specs.declared.forms.Row.{Row}
use Rattle.vw_rows.specs.declared.levels.Level.{Level}
use Rattle.vw_rows.specs.Rows.{rows}
use Rattle.vw_rows.specs.Lookup.{takes_prefix, same_map, has_opcode, has_digit, has_form}

-- the row of an entry: 0 is none, else the entry is the row's number and 1
unfoldable pub numbered : ℕ → Option Row
numbered n = if n == 0 then None else slice_get rows (n - 1)

-- an opcode of a map, with a legacy prefix or none
pub record Slot : Type 0 where
  pub map : Map
  pub prefix : Prefix
  pub opcode : ℕ

abbrev pub slot : Map → Prefix → ℕ → Slot
slot m p o = record { map = m; prefix = p; opcode = o }

-- the opcodes whose rows differ by digit or form
unfoldable pub owners : List Slot
owners =
    slot One Plain 0x80 ∷
    slot One Plain 0x81 ∷
    slot One Plain 0x83 ∷
    slot One Plain 0x87 ∷
    slot One Plain 0x8D ∷
    slot One Plain 0xC0 ∷
    slot One Plain 0xC1 ∷
    slot One Plain 0xC6 ∷
    slot One Plain 0xC7 ∷
    slot One Plain 0xD0 ∷
    slot One Plain 0xD1 ∷
    slot One Plain 0xD2 ∷
    slot One Plain 0xD3 ∷
    slot One Plain 0xF6 ∷
    slot One Plain 0xF7 ∷
    slot One Plain 0xFE ∷
    slot One Plain 0xFF ∷
    slot One P66 0x81 ∷
    slot One P66 0x83 ∷
    slot One P66 0x87 ∷
    slot One P66 0x8D ∷
    slot One P66 0xC1 ∷
    slot One P66 0xC7 ∷
    slot One P66 0xD1 ∷
    slot One P66 0xD3 ∷
    slot One P66 0xF7 ∷
    slot One P66 0xFF ∷
    slot Two Plain 0x1F ∷
    slot Two Plain 0xA3 ∷
    slot Two Plain 0xBA ∷
    slot Two P66 0x1F ∷
    slot Two P66 0xA3 ∷
    slot Two P66 0xBA ∷
    []

unfoldable pub same_prefix : Prefix → Prefix → Bool
same_prefix Plain Plain = true
same_prefix P66 P66 = true
same_prefix PF2 PF2 = true
same_prefix PF3 PF3 = true
same_prefix _ _ = false

unfoldable pub same_slot : Slot → Slot → Bool
same_slot a b = same_map a.map b.map && (same_prefix a.prefix b.prefix && a.opcode == b.opcode)

-- the rows of an opcode
unfoldable pub rows_at : Slot → List Row
rows_at a = filter (λ r. has_opcode r.pattern a.opcode && (takes_prefix r.pattern.prefixes a.prefix && same_map r.pattern.map a.map)) rows

-- the row takes this digit and this form
unfoldable pub fits : ℕ → Bool → Row → Bool
fits d f r = has_digit r.pattern.digit d && has_form r.pattern.form f

-- the entry is that of the row, or of none
unfoldable pub is_entry : ℕ → Option Row → Bool
is_entry n None = n == 0
is_entry n (Some r) = n == r.number + 1

-- the entry is that of the rows with each digit below the bound, and both forms
unfoldable pub is_entry_below : ℕ → ℕ → List Row → Bool
is_entry_below n zero rs = true
is_entry_below n (suc d) rs = is_entry n (find (fits d false) rs) && (is_entry n (find (fits d true) rs) && is_entry_below n d rs)

unfoldable pub is_owner : Slot → Option Slot → Bool
is_owner a None = false
is_owner a (Some b) = same_slot a b

-- an entry of a level that is read by the opcode
unfoldable pub opcode_agrees : Slot → ℕ → Bool
opcode_agrees a n = if nat_lt n 32768 then is_entry_below n 8 (rows_at a) else is_owner a (slice_get owners (n - 32768))

-- the entries from an opcode on
unfoldable pub opcodes_agree_from : Map → Prefix → ℕ → List ℕ → Bool
opcodes_agree_from m p o [] = o == 256
opcodes_agree_from m p o (n ∷ ns) = opcode_agrees (slot m p o) n && opcodes_agree_from m p (o + 1) ns

-- A level that is read by the opcode, of a map and a prefix: 256 entries. Below 32768 an entry is that of the
-- opcode's rows with each digit and form; else it is 32768 and the place of the opcode among the owners.
unfoldable pub opcodes_agree : Map → Prefix → List ℕ → Bool
opcodes_agree m p ns = opcodes_agree_from m p 0 ns

-- the entries from a digit on, memory before the register
unfoldable pub digits_agree : List Row → ℕ → List ℕ → Bool
digits_agree rs d [] = d == 8
digits_agree rs d (n ∷ []) = false
digits_agree rs d (n ∷ m ∷ ns) = is_entry n (find (fits d false) rs) && (is_entry m (find (fits d true) rs) && digits_agree rs (d + 1) ns)

-- A level for each opcode, in their order, that is read by digit and form: 16 entries.
unfoldable pub owners_agree : List Slot → List (Level 16) → Bool
owners_agree [] [] = true
owners_agree [] (l ∷ ls) = false
owners_agree (a ∷ others) [] = false
owners_agree (a ∷ others) (l ∷ ls) = digits_agree (rows_at a) 0 l.entries && owners_agree others ls

abbrev pub bit : Bool → ℕ
bit true = 1
bit false = 0

-- the row, unless it asks another digit
abbrev pub with_digit : Option Row → ℕ → Option Row
with_digit None d = None
with_digit (Some r) d = if has_digit r.pattern.digit d then Some r else None
