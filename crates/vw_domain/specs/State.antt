-- What is known at a point of a function, part by part: the abstract states of the analysis. A lower state says more
-- (Cousot and Cousot, Abstract interpretation, 1977).
use Rattle.std.specs.Prelude.{◌≡◌, ◌≢◌, ℕ, ◌+◌, ◌^◌, ◌<◌, ◌≤◌, ◌⊎◌, ℤ, pos, ◌+ℤ◌, ◌-ℤ◌, ◌≤ℤ◌, ◌<ℤ◌, true, List, [], ◌∷◌, length, Some, replicate}
use Rattle.vw_lattice.specs.Entries.{IsAscending, value_at, map_below, map_rank, HasKey}
use Rattle.vw_locals.specs.Ranges.{IsRanges, is_written, written_below, bytes}
use Rattle.vw_names.specs.Division.{IsDivision, Same, division_below}
use Rattle.vw_stack.specs.declared.offset.Offset.TheVariants as offset
use Rattle.vw_values.specs.declared.value.Value.{Value}
use Rattle.vw_values.specs.declared.value.Value.TheVariants.{Any, Num, Const, Below, HeapBase, Entry}
use Rattle.vw_values.specs.Values.{IsValue, IsAmong, value_below}
use Rattle.vw_values.specs.Rank.{value_rank}
use Rattle.vw_domain.specs.declared.registers.Register.{Register}
use Rattle.vw_domain.specs.declared.parts.Fact.{Fact}
use Rattle.vw_domain.specs.declared.parts.Fact.TheVariants.{Unknown, Compare}
use Rattle.vw_domain.specs.declared.parts.Parts.{Parts}
use Rattle.vw_domain.specs.Registers.{unknown_register, IsRow, row_below, row_rank, IsRowAmong}

-- ---- the fact

-- a fact is below itself and below none
abbrev pub fact_below : Fact → Fact → Type 0
fact_below low Unknown = Unit {0}
fact_below Unknown (Compare w k) = ⊥
fact_below (Compare v j) (Compare w k) = (v ≡ w) × (j ≡ k)

abbrev pub fact_rank : Fact → ℕ
fact_rank Unknown = 0
fact_rank (Compare w k) = 1

-- a comparison at 32 or 64 bits with a number of so many
abbrev pub IsFact : Fact → Type 0
IsFact Unknown = Unit {0}
IsFact (Compare w k) = ((w ≡ 32) ⊎ (w ≡ 64)) × (k < 2 ^ w)

-- ---- slots

-- Slots stand in one map, by keys that hold their sizes: a slot of 8 bytes at offset o has the key 2 o, one of 4 bytes
-- the key 2 o + 1.
abbrev pub wide_key : ℤ → ℤ
wide_key o = o +ℤ o

abbrev pub narrow_key : ℤ → ℤ
narrow_key o = (o +ℤ o) +ℤ pos 1

-- a value of 4 bytes, extended by zeros
abbrev pub IsNarrow : Value → Type 0
IsNarrow (Const c) = c < 2 ^ 32
IsNarrow (Below k) = k ≤ 2 ^ 32
IsNarrow v = ⊥

-- slots at offsets of at most 2^32 in size, at each offset at most one
pub record AreSlots (slots : List (ℤ × Value)) : Type 0 where
  pub ascending : IsAscending slots
  pub within : (key : ℤ) → HasKey slots key → ((pos 0 -ℤ pos (2 ^ 33)) ≤ℤ key) × (key ≤ℤ pos (2 ^ 33 + 1))
  pub values : (key : ℤ) (v : Value) → value_at slots key ≡ Some v → IsValue v
  pub narrow : (o : ℤ) (v : Value) → value_at slots (narrow_key o) ≡ Some v → IsNarrow v
  pub apart : (o : ℤ) → HasKey slots (wide_key o) → HasKey slots (narrow_key o) → ⊥

-- the bound that each slot's value names is among these
abbrev pub AreSlotsAmong : List ℕ → List (ℤ × Value) → Type 0
AreSlotsAmong bounds slots = (key : ℤ) (v : Value) → value_at slots key ≡ Some v → IsAmong bounds v

-- ---- classes

-- Classes name a slot by its key. The key that has this number:
abbrev pub key_of : ℕ → ℤ
key_of a = pos a -ℤ pos (2 ^ 64)

-- the place is a register, the flags, or a slot that is there
abbrev pub IsThere : List (ℤ × Value) → ℕ → Type 0
IsThere slots a = ((a < 17) ⊎ (a ≡ 256)) ⊎ HasKey slots (key_of a)

-- each place that is in a class with another is there
abbrev pub IsNamed : List (ℤ × Value) → List (ℕ × ℕ) → Type 0
IsNamed slots classes = (a b : ℕ) → Same classes a b → a ≢ b → IsThere slots a

-- ---- written bytes

-- offsets from -2^32 to -1
abbrev pub IsInFrame : List (ℤ × ℤ) → Type 0
IsInFrame written = (x : ℤ) → is_written written x ≡ true → ((pos 0 -ℤ pos (2 ^ 32)) ≤ℤ x) × (x <ℤ pos 0)

-- ---- the state

-- the state in which nothing is known
abbrev pub unknown_state : Parts
unknown_state = record { registers = replicate 17 unknown_register; probed = 0; written = []; slots = []; classes = []; fact = Unknown }

-- a register with this value, at no known distance
abbrev pub plain_register : Value → Register
plain_register v = record { offset = offset.Unknown; value = v }

-- The registers at a function's entry, by their numbers: rsp is where it is, rdi holds the heap's base, and rbx, rbp and
-- r12 to r15 what the caller left in them (psABI, 3.2.1); the others hold numbers, and nothing is known of number 16.
abbrev pub entry_registers : List Register
entry_registers =
    plain_register Num ∷ plain_register Num ∷ plain_register Num ∷ plain_register (Entry 3)
    ∷ record { offset = offset.Known (pos 0); value = Any } ∷ plain_register (Entry 5) ∷ plain_register Num ∷ plain_register HeapBase
    ∷ plain_register Num ∷ plain_register Num ∷ plain_register Num ∷ plain_register Num
    ∷ plain_register (Entry 12) ∷ plain_register (Entry 13) ∷ plain_register (Entry 14) ∷ plain_register (Entry 15) ∷ unknown_register ∷ []

-- the state at a function's entry
abbrev pub entry_state : Parts
entry_state = record unknown_state { registers = entry_registers }

-- each part is in its ranges
pub record IsState (s : Parts) : Type 0 where
  pub registers : IsRow s.registers
  pub probed : s.probed ≤ 2 ^ 32
  pub ranges : IsRanges s.written
  pub frame : IsInFrame s.written
  pub slots : AreSlots s.slots
  pub classes : IsDivision s.classes
  pub named : IsNamed s.slots s.classes
  pub fact : IsFact s.fact

-- the bounds of its values are among these
pub record Fits (bounds : List ℕ) (s : Parts) : Type 0 where
  pub registers : IsRowAmong bounds s.registers
  pub slots : AreSlotsAmong bounds s.slots

-- the states that an analysis with these bounds keeps to
pub record IsValidState (bounds : List ℕ) (s : Parts) : Type 0 where
  pub state : IsState s
  pub fits : Fits bounds s

-- lower in each part: more offsets, lower values, a greater depth, more bytes, more slots, coarser classes, a fact
pub record state_below (low high : Parts) : Type 0 where
  pub registers : row_below low.registers high.registers
  pub probed : high.probed ≤ low.probed
  pub written : written_below low.written high.written
  pub slots : map_below value_below low.slots high.slots
  pub classes : division_below low.classes high.classes
  pub fact : fact_below low.fact high.fact

-- The known offsets, the ranks of values, the depth, the written bytes, the slots, the places less the classes, and 1 for
-- a fact.
abbrev pub state_rank : List ℕ → Parts → ℕ
state_rank bounds s =
    row_rank bounds s.registers + s.probed + bytes s.written + map_rank (value_rank bounds) s.slots + length s.classes + fact_rank s.fact
