-- Places as numbers, in their order: the registers, the flags, the slots by offset.
use Rattle.std.specs.Prelude.{◌≡◌, ◌≢◌, ◌<◌, ◌≤◌, ◌⊎◌, ℕ, ℤ, pos, negsuc, ◌+◌, ◌-◌, ◌^◌, List}
use Rattle.vw_names.specs.declared.spot.Spot.{Spot}
use Rattle.vw_names.specs.declared.spot.Spot.TheVariants.{Reg, Flags, Slot}
use Rattle.vw_names.specs.Division.{Same}

-- the number of the slot at an offset: they ascend with the offsets, around 2^64 at offset 0
abbrev pub slot_number : ℤ → ℕ
slot_number (pos n) = 2 ^ 64 + n
slot_number (negsuc n) = 2 ^ 64 - 1 - n

-- the number of a place: a register's own, then the flags, then the slots
abbrev pub number : Spot → ℕ
number (Reg r) = r
number Flags = 256
number (Slot offset) = slot_number offset

-- the number is that of a register, of the flags, or of a slot with an offset of 64 bits
abbrev pub IsPlaceNumber : ℕ → Type 0
IsPlaceNumber a = (a ≤ 256) ⊎ ((2 ^ 63 ≤ a) × (a < 2 ^ 64 + 2 ^ 63))

-- whatever is in a class with another place is a register, the flags, or a slot
abbrev pub NamesPlaces : List (ℕ × ℕ) → Type 0
NamesPlaces division = (a b : ℕ) → a ≢ b → Same division a b → IsPlaceNumber a
