-- What stores and calls do to the parts of a state.
use Rattle.std.specs.Prelude.{◌≡◌, ◌≢◌, ◌<◌, ◌+◌, ◌^◌, ◌↔◌, ℕ, ℤ, pos, ◌+ℤ◌, ◌-ℤ◌, Bool, true, false, ◌&&◌, ◌||◌, int_lt, nat_lt, List, length, Option, Some, None, if◌then◌else◌}
use Rattle.std.specs.Ordering.{int_eq}
use Rattle.vw_lattice.specs.Entries.{IsAscending, value_at}
use Rattle.vw_locals.specs.Ranges.{IsRanges, is_written, is_between}
use Rattle.vw_names.specs.declared.spot.Spot.{Spot}
use Rattle.vw_names.specs.declared.spot.Spot.TheVariants.{Reg}
use Rattle.vw_names.specs.Division.{IsDivision, Same, IsAlone, Leaves, Follows}
use Rattle.vw_names.specs.Spot.{slot_number}
use Rattle.vw_values.specs.declared.value.Value.{Value}
use Rattle.vw_values.specs.declared.value.Value.TheVariants.{Any}
use Rattle.vw_values.specs.Values.{IsValue, IsAmong}
use Rattle.vw_stack.specs.declared.offset.Offset.{Offset}
use Rattle.vw_stack.specs.declared.offset.Offset.TheVariants as offset
use Rattle.vw_domain.specs.declared.gone.Gone.{Gone}
use Rattle.vw_domain.specs.declared.registers.Register as row
use Rattle.vw_domain.specs.declared.parts.Fact.TheVariants.{Unknown}
use Rattle.vw_domain.specs.Changes.{call_fresh, is_pushed}
use Rattle.vw_domain.specs.Writes.{is_gone, forgotten_register, ForgetsSlots}
use Rattle.vw_domain.specs.declared.stores.Content.{Content}
use Rattle.vw_domain.specs.declared.stores.Content.TheVariants.{Nothing, Copy, Wide, Narrow}
use Rattle.vw_domain.specs.declared.parts.Parts.{Parts}
use Rattle.vw_domain.specs.Registers.{register_at, IsWithin}
use Rattle.vw_domain.specs.State.{wide_key, narrow_key, key_of, IsNarrow, plain_register}

-- ---- what is stored

-- of the slot that stands there afterwards
abbrev pub content_size : Content → ℕ
content_size Nothing = 0
content_size (Copy r) = 8
content_size (Wide v) = 8
content_size (Narrow v) = 4

abbrev pub content_source : Content → Option Spot
content_source Nothing = None
content_source (Copy r) = Some (Reg r)
content_source (Wide v) = None
content_source (Narrow v) = None

-- u where the slot has the number of a place, whose value counts
abbrev pub content_value : Value → Content → Value
content_value u Nothing = Any
content_value u (Copy r) = u
content_value u (Wide v) = v
content_value u (Narrow v) = v

-- a register that there is, or a value in its ranges, for 4 bytes one of so many
abbrev pub IsContent : Content → Type 0
IsContent Nothing = Unit {0}
IsContent (Copy r) = r < 17
IsContent (Wide v) = IsValue v
IsContent (Narrow v) = IsValue v × IsNarrow v

-- the bound that the value names is among these
abbrev pub IsContentAmong : List ℕ → Content → Type 0
IsContentAmong bounds Nothing = Unit {0}
IsContentAmong bounds (Copy r) = Unit {0}
IsContentAmong bounds (Wide v) = IsAmong bounds v
IsContentAmong bounds (Narrow v) = IsAmong bounds v

-- ---- places that are lost

-- The places with these numbers are taken out of their classes, and of the others the same are together.
pub record LeavesAll (gone : ℕ → Bool) (old new : List (ℕ × ℕ)) : Type 0 where
  pub alone : (a : ℕ) → gone a ≡ true → IsAlone new a
  pub others : (a b : ℕ) → gone a ≡ false → gone b ≡ false → Same new a b ↔ Same old a b

-- The slots with these keys are lost.
pub record LosesSlots (lost : ℤ → Bool) (old new : Parts) : Type 0 where
  pub ascending : IsAscending new.slots
  pub values : (key : ℤ) → value_at new.slots key ≡ (if lost key then None else value_at old.slots key)
  pub classes : LeavesAll (λ a. lost (key_of a)) old.classes new.classes
  pub division : IsDivision new.classes
  pub registers : new.registers ≡ old.registers
  pub probed : new.probed ≡ old.probed
  pub written : new.written ≡ old.written
  pub fact : new.fact ≡ old.fact

-- the key of a slot of 8 bytes at offset o
abbrev pub is_wide_at : ℤ → ℤ → Bool
is_wide_at o key = int_eq key (wide_key o)

-- Where n bytes are written at c, the slots of 8 bytes that begin up to 7 bytes below c are overlapped, and those of 4 bytes
-- that begin up to 3 below; and both where they begin in the bytes that are written.
abbrev pub is_overlapped : ℤ → ℕ → ℤ → Bool
is_overlapped c n key =
    is_wide_at (c -ℤ pos 7) key || (is_wide_at (c -ℤ pos 6) key || (is_wide_at (c -ℤ pos 5) key || (is_wide_at (c -ℤ pos 4) key || is_between (wide_key (c -ℤ pos 3)) (wide_key (c +ℤ pos n)) key)))

-- ---- slots that are put

-- the slot is put into the class of a register, or stays in its own
abbrev pub MovesSlot : ℤ → Option ℕ → List (ℕ × ℕ) → List (ℕ × ℕ) → Type 0
MovesSlot key None old new = new ≡ old
MovesSlot key (Some r) old new = Follows (slot_number key) r old new

-- a slot is put under a key
pub record PutsSlot (key : ℤ) (value : Value) (source : Option ℕ) (old new : Parts) : Type 0 where
  pub ascending : IsAscending new.slots
  pub here : value_at new.slots key ≡ Some value
  pub others : (other : ℤ) → other ≢ key → value_at new.slots other ≡ value_at old.slots other
  pub classes : MovesSlot key source old.classes new.classes
  pub division : IsDivision old.classes → IsDivision new.classes
  pub registers : new.registers ≡ old.registers
  pub probed : new.probed ≡ old.probed
  pub written : new.written ≡ old.written
  pub fact : new.fact ≡ old.fact

abbrev pub PutsContent : ℤ → Content → Parts → Parts → Type 0
PutsContent c Nothing old new = new ≡ old
PutsContent c (Copy r) old new = PutsSlot (wide_key c) (register_at old.registers r).value (Some r) old new
PutsContent c (Wide v) old new = PutsSlot (wide_key c) v None old new
PutsContent c (Narrow v) old new = PutsSlot (narrow_key c) v None old new

-- the bytes from `low` to `high` - 1 below offset 0 are written too
pub record AddsBelow (low high : ℤ) (old new : Parts) : Type 0 where
  pub ranges : IsRanges new.written
  pub written : (x : ℤ) → is_written new.written x ≡ ((is_between low high x && int_lt x (pos 0)) || is_written old.written x)
  pub others : new ≡ record old { written = new.written }

-- n bytes at c are written
pub record StoresBytes (c : ℤ) (n : ℕ) (content : Content) (old new : Parts) : Type 0 where
  -- the parts without the slots that are overlapped, and with the new one
  pub left : Parts
  pub filled : Parts
  pub loses : LosesSlots (is_overlapped c n) old left
  pub puts : PutsContent c content left filled
  pub adds : AddsBelow c (c +ℤ pos n) filled new

-- ---- calls

-- the offset of rsp, where it is known, is at most 2^31 in size
abbrev pub IsCallOffset : Offset → Type 0
IsCallOffset offset.Unknown = Unit {0}
IsCallOffset (offset.Known c) = IsWithin (2 ^ 31) c

-- what is known of register r once a call returned
abbrev pub called_register : Gone → ℕ → row.Register → row.Register
called_register gone r known = if is_gone gone r then plain_register (call_fresh (Reg r)) else forgotten_register gone known

pub record CallsRow (gone : Gone) (old new : List row.Register) : Type 0 where
  pub seventeen : length new ≡ 17
  pub registers : (r : ℕ) → register_at new r ≡ called_register gone r (register_at old r)

-- the number of a register that is written
abbrev pub is_left : Gone → ℕ → Bool
is_left gone a = nat_lt a 17 && is_gone gone a

-- the least key of a slot
abbrev pub lowest_key : ℤ
lowest_key = pos 0 -ℤ pos (2 ^ 33)

-- the first key of a slot that a call leaves, with rsp at this offset before it
abbrev pub key_limit : Offset → ℤ
key_limit offset.Unknown = pos (2 ^ 33 + 2)
key_limit (offset.Known c) = wide_key c

-- the return address is written
pub record Pushes (c : Offset) (old new : Parts) : Type 0 where
  pub ranges : IsRanges old.written → IsRanges new.written
  pub written : (x : ℤ) → is_written new.written x ≡ (is_pushed c x || is_written old.written x)
  pub others : new ≡ record old { written = new.written }

-- what a call leaves
pub record Calls (c : Offset) (gone : Gone) (old new : Parts) : Type 0 where
  -- the parts with the return address, those without slots that are lost, and classes without registers
  pub pushed : Parts
  pub left : Parts
  pub classes : List (ℕ × ℕ)
  pub push : Pushes c old pushed
  pub loses : LosesSlots (is_between lowest_key (key_limit c)) pushed left
  pub registers : LeavesAll (is_left gone) left.classes classes
  pub flags : Leaves 256 classes new.classes
  pub division : IsDivision new.classes
  pub row : CallsRow gone left.registers new.registers
  pub slots : ForgetsSlots gone left.slots new.slots
  pub probed : new.probed ≡ left.probed
  pub written : new.written ≡ left.written
  pub fact : new.fact ≡ Unknown
