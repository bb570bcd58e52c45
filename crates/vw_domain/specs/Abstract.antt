-- The abstract form of a state: functions over places, on which the order and the meaning of states are stated.
use Rattle.std.specs.Prelude.{◌≡◌, ℕ, ◌^◌, ◌<◌, ◌≤◌, ◌==◌, ◌⊎◌, ℤ, Bool, true, false, ◌&&◌, ◌||◌, if◌then◌else◌, is_some, nat_lt, List, Option, Some, None}
use Rattle.std.specs.Ordering.{int_eq}
use Rattle.vw_lattice.specs.Entries.{value_at}
use Rattle.vw_locals.specs.Ranges.{is_written}
use Rattle.vw_names.specs.declared.spot.Spot.{Spot}
use Rattle.vw_names.specs.declared.spot.Spot.TheVariants.{Reg, Flags, Slot}
use Rattle.vw_names.specs.Division.{root}
use Rattle.vw_names.specs.Spot.{slot_number}
use Rattle.vw_stack.specs.Stack.{offset_below}
use Rattle.vw_stack.specs.declared.offset.Offset.{Offset}
use Rattle.vw_values.specs.declared.value.Value.{Value}
use Rattle.vw_values.specs.declared.value.Value.TheVariants.{Any}
use Rattle.vw_values.specs.Values.{value_below}
use Rattle.vw_domain.specs.declared.parts.Fact.{Fact}
use Rattle.vw_domain.specs.declared.parts.Parts.{Parts}
use Rattle.vw_domain.specs.Registers.{register_at, IsWithin}
use Rattle.vw_domain.specs.State.{fact_below, wide_key, narrow_key}

-- whether two places are one
abbrev pub is_place : Spot → Spot → Bool
is_place (Reg q) (Reg r) = q == r
is_place Flags Flags = true
is_place (Slot a) (Slot b) = int_eq a b
is_place (Reg q) Flags = false
is_place (Reg q) (Slot b) = false
is_place Flags (Reg r) = false
is_place Flags (Slot b) = false
is_place (Slot a) (Reg r) = false
is_place (Slot a) Flags = false

pub record Abstract : Type 0 where
  -- of each register, its distance from the value of rsp at the function's entry
  pub offsets : ℕ → Offset
  -- of each place
  pub values : Spot → Value
  -- of the slot at each offset: 4 or 8 bytes, and 0 where there is none
  pub sizes : ℤ → ℕ
  -- whether two places are in one class
  pub same : Spot → Spot → Bool
  pub fact : Fact
  pub probed : ℕ
  -- whether the byte at an offset was written
  pub written : ℤ → Bool

-- there are seventeen registers, and slots lie at offsets of at most 2^32 in size
abbrev pub IsFrameSpot : Spot → Type 0
IsFrameSpot (Reg r) = r < 17
IsFrameSpot Flags = Unit {0}
IsFrameSpot (Slot o) = IsWithin (2 ^ 32) o

-- ---- of the parts of a state

-- the slot at an offset stands under the key of its size
abbrev pub slot_key : List (ℤ × Value) → ℤ → ℤ
slot_key slots o = if is_some (value_at slots (narrow_key o)) then narrow_key o else wide_key o

abbrev pub slot_size : List (ℤ × Value) → ℤ → ℕ
slot_size slots o =
    if is_some (value_at slots (narrow_key o)) then 4 else (if is_some (value_at slots (wide_key o)) then 8 else 0)

abbrev pub value_or_any : Option Value → Value
value_or_any None = Any
value_or_any (Some v) = v

abbrev pub value_of : Parts → Spot → Value
value_of s (Reg r) = (register_at s.registers r).value
value_of s Flags = Any
value_of s (Slot o) = value_or_any (value_at s.slots (slot_key s.slots o))

-- whether a place is there
abbrev pub is_there : Parts → Spot → Bool
is_there s (Reg r) = nat_lt r 17
is_there s Flags = true
is_there s (Slot o) = is_some (value_at s.slots (slot_key s.slots o))

-- the number of a place in the classes
abbrev pub class_number : Parts → Spot → ℕ
class_number s (Reg r) = r
class_number s Flags = 256
class_number s (Slot o) = slot_number (slot_key s.slots o)

-- one place, or two that are there and in one class
abbrev pub is_same : Parts → Spot → Spot → Bool
is_same s p q =
    is_place p q || (is_there s p && (is_there s q && (root s.classes (class_number s p) == root s.classes (class_number s q))))

-- the abstract form of a state
abbrev pub abstract_of : Parts → Abstract
abstract_of s = record {
  offsets = λ r. (register_at s.registers r).offset;
  values = value_of s;
  sizes = slot_size s.slots;
  same = is_same s;
  fact = s.fact;
  probed = s.probed;
  written = is_written s.written;
}

-- ---- the order

-- the first form says at least as much
pub record IsBelow (s t : Abstract) : Type 0 where
  pub offsets : (r : ℕ) → offset_below (s.offsets r) (t.offsets r)
  pub values : (p : Spot) → value_below (s.values p) (t.values p)
  pub sizes : (o : ℤ) → (t.sizes o ≡ 0) ⊎ (s.sizes o ≡ t.sizes o)
  pub same : (p q : Spot) → t.same p q ≡ true → s.same p q ≡ true
  pub fact : fact_below s.fact t.fact
  pub probed : t.probed ≤ s.probed
  pub written : (c : ℤ) → t.written c ≡ true → s.written c ≡ true
