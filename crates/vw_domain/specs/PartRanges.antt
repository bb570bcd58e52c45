-- Which lists are parts of a state between two instructions, and the steps by which a state is made of them.
use Rattle.std.specs.Prelude.{◌≡◌, ◌≢◌, ℕ, ◌^◌, ◌<◌, ◌≤◌, ◌⊎◌, ℤ, ◌<ℤ◌, ◌≤ℤ◌, ◌+ℤ◌, pos, List, length, get_or, map, Option}
use Rattle.std.specs.List.{All, Any}
use Rattle.vw_locals.specs.Ranges.{IsRanges}
use Rattle.vw_names.specs.declared.spot.Spot.{Spot}
use Rattle.vw_names.specs.declared.spot.Spot.TheVariants.{Reg}
use Rattle.vw_names.specs.Division.{root, Same, IsDivision}
use Rattle.vw_names.specs.Groups.{Has, AreGroups}
use Rattle.vw_names.specs.Spot.{number}
use Rattle.vw_values.specs.declared.value.Value.{Value}
use Rattle.vw_domain.specs.declared.parts.Parts.{Parts}
use Rattle.vw_domain.specs.declared.registers.Register.{Register}
use Rattle.vw_domain.specs.declared.state_of.PartsError.{PartsError}
use Rattle.vw_domain.specs.declared.state_of.PartsError.TheVariants.{NotAState, Memory}
use Rattle.vw_domain.specs.declared.state_parts.Slot.{Slot}
use Rattle.vw_domain.specs.declared.state_parts.StateParts.{StateParts}
use Rattle.vw_values.specs.Values.{IsValue}
use Rattle.vw_domain.specs.Registers.{register_at, unknown_register, IsRow, IsWithin}
use Rattle.vw_domain.specs.State.{AreSlots, IsFact, IsInFrame, IsNarrow}
use Rattle.vw_domain.specs.StateParts.{AreOffsets, AreValues, HasParts, HasSize, IsPlace, IsPointState, entry_of, named}

-- no state between two instructions has these parts
abbrev pub HasNoState : StateParts → Type 0
HasNoState p = (s : Parts) → IsPointState s → HasParts s p → ⊥

-- an error tells that, or that memory was refused
abbrev pub IsRefused : StateParts → PartsError → Type 0
IsRefused p NotAState = HasNoState p
IsRefused p (Memory error) = Unit {0}

-- what is made of parts
pub record IsStateOf (p : StateParts) (s : Parts) : Type 0 where
  pub point : IsPointState s
  pub parts : HasParts s p

-- ---- registers

-- the row has these distances and values, and nothing is known of register 16
pub record IsRowOf (cs : List (Option ℤ)) (vs : List Value) (registers : List Register) : Type 0 where
  pub row : IsRow registers
  pub unknown : register_at registers 16 ≡ unknown_register
  pub offsets : AreOffsets 16 registers cs
  pub values : AreValues 16 registers vs

-- no row has them
abbrev pub HasNoRow : List (Option ℤ) → List Value → Type 0
HasNoRow offsets values = (row : List Register) → IsRow row → AreOffsets 16 row offsets → AreValues 16 row values → ⊥

-- ---- ranges, slots, and what stands alone

-- the range begins behind `end` and another offset, is not empty, and ends below 0
pub record IsNextRange (end : ℤ) (range : ℤ × ℤ) : Type 0 where
  pub behind : (end +ℤ pos 1) <ℤ range.0
  pub filled : range.0 ≤ℤ range.1
  pub frame : range.1 <ℤ pos 0

pub record AreFrameRanges (written : List (ℤ × ℤ)) : Type 0 where
  pub ranges : IsRanges written
  pub frame : IsInFrame written

-- a slot with a value of its size, at an offset of at most 2^32 in size
pub record IsSlot (slot : Slot) : Type 0 where
  pub size : HasSize slot
  pub value : IsValue slot.value
  pub narrow : slot.size ≡ 4 → IsNarrow slot.value
  pub offset : IsWithin (2 ^ 32) slot.offset

pub record IsNextSlot (last : ℤ) (next : Slot) : Type 0 where
  pub behind : last <ℤ next.offset
  pub slot : IsSlot next

pub record AreSlotParts (list : List Slot) : Type 0 where
  pub sizes : All HasSize list
  pub slots : AreSlots (map entry_of list)

pub record IsInRange (p : StateParts) : Type 0 where
  pub probed : p.probed ≤ 2 ^ 32
  pub fact : IsFact p.fact
  pub written : AreFrameRanges p.written
  pub slots : AreSlotParts p.slots

-- the parts of a state that has these, and no classes
pub record IsBare (p : StateParts) (s : Parts) : Type 0 where
  pub row : IsRowOf p.offsets p.values s.registers
  pub range : IsInRange p
  pub probed : s.probed ≡ p.probed
  pub written : s.written ≡ p.written
  pub slots : s.slots ≡ map entry_of p.slots
  pub fact : s.fact ≡ p.fact

-- ---- classes

-- a register of the processor, the flags, or a slot that is there
pub record IsPointPlace (slots : List (ℤ × Value)) (p : Spot) : Type 0 where
  pub place : IsPlace slots p
  pub other : p ≢ Reg 16

pub record IsNameOf (slots : List (ℤ × Value)) (place name : Spot) : Type 0 where
  pub point : IsPointPlace slots place
  pub is : name ≡ named slots place

pub record AreNamesOf (slots : List (ℤ × Value)) (places names : List Spot) : Type 0 where
  pub point : All (IsPointPlace slots) places
  pub are : names ≡ map (named slots) places

pub record AreNames (slots : List (ℤ × Value)) (classes names : List (List Spot)) : Type 0 where
  pub point : All (λ class. All (IsPointPlace slots) class) classes
  pub are : names ≡ map (map (named slots)) classes

-- The first n classes are joined, and the first k places of the one behind them: no places are together that are not in
-- each division with these classes, and of those so far each is together with the least of its class.
pub record Joins (names : List (List Spot)) (n k : ℕ) (classes : List (ℕ × ℕ)) : Type 0 where
  pub listed : (a b : ℕ) → a ≢ b → Same classes a b → Any (λ group. Has group a) names
  pub sound : (d : List (ℕ × ℕ)) → IsDivision d → AreGroups d names → (a b : ℕ) → Same classes a b → Same d a b
  pub joined : (d : List (ℕ × ℕ)) → IsDivision d → AreGroups d names → (i j : ℕ) (g : List Spot) (p : Spot)
      → i < length names → (i < n) ⊎ ((i ≡ n) × (j < k)) → j < length (get_or names i g)
      → Same classes (number (get_or (get_or names i g) j p)) (root d (number (get_or (get_or names i g) j p)))
