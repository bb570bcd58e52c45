-- The parts of a state, as lists: what a report prints of a state, in its order.
use Rattle.std.specs.Prelude.{◌≡◌, ℕ, ◌<◌, ◌==◌, ◌⊎◌, ℤ, if◌then◌else◌, List, length, get_or, map, Option, Some, None}
use Rattle.std.specs.List.{All}
use Rattle.vw_names.specs.declared.spot.Spot.{Spot}
use Rattle.vw_names.specs.declared.spot.Spot.TheVariants.{Reg, Flags, Slot as SlotAt}
use Rattle.vw_names.specs.Division.{IsAlone}
use Rattle.vw_names.specs.Groups.{AreGroups}
use Rattle.vw_names.specs.Spot.{number}
use Rattle.vw_lattice.specs.Entries.{HasKey}
use Rattle.vw_stack.specs.declared.offset.Offset.{Offset}
use Rattle.vw_stack.specs.declared.offset.Offset.TheVariants.{Known, Unknown}
use Rattle.vw_values.specs.declared.value.Value.{Value}
use Rattle.vw_values.specs.declared.value.Value.TheVariants.{Any}
use Rattle.vw_domain.specs.declared.parts.Parts.{Parts}
use Rattle.vw_domain.specs.declared.registers.Register.{Register}
use Rattle.vw_domain.specs.declared.state_parts.Slot.{Slot}
use Rattle.vw_domain.specs.declared.state_parts.StateParts.{StateParts}
use Rattle.vw_domain.specs.Registers.{register_at, unknown_register}
use Rattle.vw_domain.specs.State.{IsState, AreSlots, IsThere, wide_key, narrow_key}
use Rattle.vw_domain.specs.Abstract.{slot_key}

-- a state between two instructions: nothing is known of register 16, and it is in a class of its own
pub record IsPointState (s : Parts) : Type 0 where
  pub state : IsState s
  pub unknown : register_at s.registers 16 ≡ unknown_register
  pub alone : IsAlone s.classes 16

-- ---- registers

abbrev pub offset_of : Option ℤ → Offset
offset_of None = Unknown
offset_of (Some c) = Known c

-- the list has the distances of the first n registers
pub record AreOffsets (n : ℕ) (row : List Register) (offsets : List (Option ℤ)) : Type 0 where
  pub length : length offsets ≡ n
  pub each : (r : ℕ) → r < n → offset_of (get_or offsets r None) ≡ (register_at row r).offset

-- the list has the values of the first n registers
pub record AreValues (n : ℕ) (row : List Register) (values : List Value) : Type 0 where
  pub length : length values ≡ n
  pub each : (r : ℕ) → r < n → get_or values r Any ≡ (register_at row r).value

-- ---- slots

-- a slot has 4 or 8 bytes
abbrev pub HasSize : Slot → Type 0
HasSize slot = (slot.size ≡ 4) ⊎ (slot.size ≡ 8)

-- its key, which holds its size, and its value
abbrev pub entry_of : Slot → ℤ × Value
entry_of slot = (if slot.size == 4 then narrow_key slot.offset else wide_key slot.offset, slot.value)

-- ---- classes

-- a place as the classes of a state name it: a slot by its key
abbrev pub named : List (ℤ × Value) → Spot → Spot
named slots (Reg r) = Reg r
named slots Flags = Flags
named slots (SlotAt o) = SlotAt (slot_key slots o)

-- the place is a register, the flags, or a slot that is there
abbrev pub IsPlace : List (ℤ × Value) → Spot → Type 0
IsPlace slots (Reg r) = r < 17
IsPlace slots Flags = Unit {0}
IsPlace slots (SlotAt o) = HasKey slots (slot_key slots o)

-- Each of the places that the classes name, whatever slots are there, is the one in the list.
abbrev pub IsPlaceOf : Spot → Spot → Type 0
IsPlaceOf name place =
    (slots : List (ℤ × Value)) → AreSlots slots → IsThere slots (number name) → (named slots place ≡ name) × IsPlace slots place

abbrev pub ArePlacesOf : List Spot → List Spot → Type 0
ArePlacesOf names places =
    (slots : List (ℤ × Value)) → AreSlots slots → All (λ name. IsThere slots (number name)) names
    → (map (named slots) places ≡ names) × All (IsPlace slots) places

abbrev pub AreClassesOf : List (List Spot) → List (List Spot) → Type 0
AreClassesOf names classes =
    (slots : List (ℤ × Value)) → AreSlots slots → All (λ group. All (λ name. IsThere slots (number name)) group) names
    → (map (map (named slots)) classes ≡ names) × All (λ class. All (IsPlace slots) class) classes

-- ---- the state

-- the state has these parts
pub record HasParts (s : Parts) (p : StateParts) : Type 0 where
  pub offsets : AreOffsets 16 s.registers p.offsets
  pub values : AreValues 16 s.registers p.values
  pub probed : p.probed ≡ s.probed
  pub written : p.written ≡ s.written
  pub sizes : All HasSize p.slots
  pub slots : map entry_of p.slots ≡ s.slots
  pub there : All (λ class. All (IsPlace s.slots) class) p.classes
  pub classes : AreGroups s.classes (map (map (named s.slots)) p.classes)
  pub fact : p.fact ≡ s.fact
