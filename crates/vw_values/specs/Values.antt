-- The values that the analysis knows of words: the ranges of the numbers in them, their order, and the bounds that they
-- name.
use Rattle.std.specs.Prelude.{◌≡◌, ℕ, ◌-◌, ◌%◌, ◌^◌, ◌<◌, ◌≤◌, ◌⊎◌, Option, Some, None, List}
use Rattle.vw_values.specs.Bounds.{IsMember}
use Rattle.vw_values.specs.declared.value.Via.{Via}
use Rattle.vw_values.specs.declared.value.Via.TheVariants.{At, Idx}
use Rattle.vw_values.specs.declared.value.Value.{Value}
use Rattle.vw_values.specs.declared.value.Value.TheVariants.{Any, Num, Const, Below, Low, Both, HeapBase, HeapAddr, Globals, Entry, Image, Index16, EntryPtr, EntryTyped, TagOf, TableFn, JumpOff, JumpDest}

-- ---- ranges

-- the number of a table
abbrev pub IsTable : ℕ → Type 0
IsTable t = t < 64

-- the tag of an entry that is not empty
abbrev pub IsTag : ℕ → Type 0
IsTag g = g < 2 ^ 32 - 1

-- a mark names table 0
abbrev pub IsMark : Option (ℕ × ℕ) → Type 0
IsMark None = Unit {0}
IsMark (Some mark) = (mark.0 ≡ 0) × IsTag mark.1

-- the number of a register
abbrev pub IsVia : Via → Type 0
IsVia (At r) = r < 16
IsVia (Idx r) = r < 16

-- how many indices a table of entries or jumps may be read at
abbrev pub IsCount : ℕ → Type 0
IsCount k = (1 ≤ k) × (k ≤ 65536)

-- the numbers in a value have their ranges
abbrev pub IsValue : Value → Type 0
IsValue Any = Unit {0}
IsValue Num = Unit {0}
IsValue (Const c) = c < 2 ^ 64
IsValue (Below k) = (1 ≤ k) × ((k ≤ 2 ^ 32) ⊎ (k ≡ 2 ^ 33))
IsValue (Low k) = (1 ≤ k) × (k < 2 ^ 32)
IsValue (Both k) = (1 ≤ k) × (k < 2 ^ 32)
IsValue HeapBase = Unit {0}
IsValue HeapAddr = Unit {0}
IsValue Globals = Unit {0}
IsValue (Entry r) = r < 16
IsValue (Image a) = a < 2 ^ 64
IsValue (Index16 k mark) = IsCount k × IsMark mark
IsValue (EntryPtr t) = IsTable t
IsValue (EntryTyped t g) = IsTable t × IsTag g
IsValue (TagOf t via) = IsTable t × IsVia via
IsValue (TableFn t g) = IsTable t × IsTag g
IsValue (JumpOff a k) = (a < 2 ^ 64) × IsCount k
IsValue (JumpDest a k) = (a < 2 ^ 64) × IsCount k

-- the bound that a value names, where it names one, is among these
abbrev pub IsAmong : List ℕ → Value → Type 0
IsAmong bounds Any = Unit {0}
IsAmong bounds Num = Unit {0}
IsAmong bounds (Const c) = Unit {0}
IsAmong bounds (Below k) = IsMember bounds k
IsAmong bounds (Low k) = IsMember bounds k
IsAmong bounds (Both k) = IsMember bounds k
IsAmong bounds HeapBase = Unit {0}
IsAmong bounds HeapAddr = Unit {0}
IsAmong bounds Globals = Unit {0}
IsAmong bounds (Entry r) = Unit {0}
IsAmong bounds (Image a) = Unit {0}
IsAmong bounds (Index16 k mark) = IsMember bounds k
IsAmong bounds (EntryPtr t) = Unit {0}
IsAmong bounds (EntryTyped t g) = Unit {0}
IsAmong bounds (TagOf t via) = Unit {0}
IsAmong bounds (TableFn t g) = Unit {0}
IsAmong bounds (JumpOff a k) = IsMember bounds k
IsAmong bounds (JumpDest a k) = IsMember bounds k

-- the values that an analysis with these bounds keeps to
abbrev pub IsValid : List ℕ → Value → Type 0
IsValid bounds v = IsValue v × IsAmong bounds v

-- ---- the order

-- the numbers; every other value but Any is a symbol
abbrev pub IsNumber : Value → Type 0
IsNumber Num = Unit {0}
IsNumber (Const c) = Unit {0}
IsNumber (Below k) = Unit {0}
IsNumber (Low k) = Unit {0}
IsNumber (Both k) = Unit {0}
IsNumber _ = ⊥

-- a mark is below none
abbrev pub mark_below : Option (ℕ × ℕ) → Option (ℕ × ℕ) → Type 0
mark_below low None = Unit {0}
mark_below low (Some high) = low ≡ Some high

-- which values are below one of each kind
abbrev pub under_below : ℕ → Value → Type 0
under_below k (Const c) = c < k
under_below k (Below j) = j ≤ k
under_below k (Both j) = k ≡ 2 ^ 33
under_below k _ = ⊥

abbrev pub under_low : ℕ → Value → Type 0
under_low k (Const c) = c % 2 ^ 32 < k
under_low k (Below j) = j ≤ k
under_low k (Both j) = j ≤ k
under_low k (Low j) = j ≤ k
under_low k _ = ⊥

abbrev pub under_both : ℕ → Value → Type 0
under_both k (Const c) = (c < 2 ^ 33) × (c % 2 ^ 32 < k)
under_both k (Below j) = j ≤ k
under_both k (Both j) = j ≤ k
under_both k _ = ⊥

abbrev pub under_heap : Value → Type 0
under_heap HeapBase = Unit {0}
under_heap HeapAddr = Unit {0}
under_heap _ = ⊥

abbrev pub under_index : ℕ → Option (ℕ × ℕ) → Value → Type 0
under_index k mark (Index16 j other) = (j ≤ k) × mark_below other mark
under_index k mark _ = ⊥

abbrev pub under_pointer : ℕ → Value → Type 0
under_pointer t (EntryPtr u) = u ≡ t
under_pointer t (EntryTyped u g) = u ≡ t
under_pointer t _ = ⊥

abbrev pub under_jump_off : ℕ → ℕ → Value → Type 0
under_jump_off a k (JumpOff b j) = (b ≡ a) × (j ≤ k)
under_jump_off a k _ = ⊥

abbrev pub under_jump_dest : ℕ → ℕ → Value → Type 0
under_jump_dest a k (JumpDest b j) = (b ≡ a) × (j ≤ k)
under_jump_dest a k _ = ⊥

-- the first value is below the second or equal to it: it says at least as much
abbrev pub value_below : Value → Value → Type 0
value_below v Any = Unit {0}
value_below v Num = IsNumber v
value_below v (Const c) = v ≡ Const c
value_below v (Below k) = under_below k v
value_below v (Low k) = under_low k v
value_below v (Both k) = under_both k v
value_below v HeapBase = v ≡ HeapBase
value_below v HeapAddr = under_heap v
value_below v Globals = v ≡ Globals
value_below v (Entry r) = v ≡ Entry r
value_below v (Image a) = v ≡ Image a
value_below v (Index16 k mark) = under_index k mark v
value_below v (EntryPtr t) = under_pointer t v
value_below v (EntryTyped t g) = v ≡ EntryTyped t g
value_below v (TagOf t via) = v ≡ TagOf t via
value_below v (TableFn t g) = v ≡ TableFn t g
value_below v (JumpOff a k) = under_jump_off a k v
value_below v (JumpDest a k) = under_jump_dest a k v
