-- What is known of seventeen registers: their distances from the value of rsp at the function's entry, and their values.
-- Numbers 0 to 15 are the processor's (SDM volume 1, 3.4.1), and 16 is a register that holds a number within one
-- instruction.
use Rattle.std.specs.Prelude.{◌≡◌, ℕ, ◌+◌, ◌^◌, ◌<◌, ◌⊎◌, ℤ, pos, ◌-ℤ◌, ◌≤ℤ◌, List, [], ◌∷◌, length, get_or}
use Rattle.vw_lattice.specs.Order.{IsJoin, IsLeast}
use Rattle.vw_stack.specs.Stack.{offset_below, offset_rank}
use Rattle.vw_stack.specs.declared.offset.Offset.{Offset}
use Rattle.vw_stack.specs.declared.offset.Offset.TheVariants.{Known, Unknown}
use Rattle.vw_values.specs.declared.value.Value.{Value}
use Rattle.vw_values.specs.declared.value.Value.TheVariants.{Any}
use Rattle.vw_values.specs.Values.{IsValue, IsAmong, IsNumber, value_below}
use Rattle.vw_values.specs.Rank.{value_rank}
use Rattle.vw_domain.specs.declared.registers.Register.{Register}

-- the number is at most n, and its negative too
abbrev pub IsWithin : ℕ → ℤ → Type 0
IsWithin n z = ((pos 0 -ℤ pos n) ≤ℤ z) × (z ≤ℤ pos n)

-- a register with a known distance has any value, or a number: no symbol
abbrev pub OffsetFits : Offset → Value → Type 0
OffsetFits Unknown v = Unit {0}
OffsetFits (Known c) v = IsWithin (2 ^ 31) c × ((v ≡ Any) ⊎ IsNumber v)

pub record IsRegister (r : Register) : Type 0 where
  pub value : IsValue r.value
  pub offset : OffsetFits r.offset r.value

-- and the bound of its value is among these
pub record IsValidRegister (bounds : List ℕ) (r : Register) : Type 0 where
  pub register : IsRegister r
  pub among : IsAmong bounds r.value

-- lower in both
pub record register_below (low high : Register) : Type 0 where
  pub offset : offset_below low.offset high.offset
  pub value : value_below low.value high.value

abbrev pub register_rank : List ℕ → Register → ℕ
register_rank bounds r = offset_rank r.offset + value_rank bounds r.value

-- ---- the row of all registers

-- nothing is known of a register
abbrev pub unknown_register : Register
unknown_register = record { offset = Unknown; value = Any }

-- Nothing is known of a register behind the last one.
abbrev pub register_at : List Register → ℕ → Register
register_at row r = get_or row r unknown_register

abbrev pub row_below : List Register → List Register → Type 0
row_below low high = (r : ℕ) → register_below (register_at low r) (register_at high r)

abbrev pub row_rank : List ℕ → List Register → ℕ
row_rank bounds [] = 0
row_rank bounds (r ∷ rest) = register_rank bounds r + row_rank bounds rest

-- there are seventeen, each in its ranges
pub record IsRow (row : List Register) : Type 0 where
  pub seventeen : length row ≡ 17
  pub registers : (r : ℕ) → IsRegister (register_at row r)

abbrev pub IsValidRow : List ℕ → List Register → Type 0
IsValidRow bounds row = (r : ℕ) → IsValidRegister bounds (register_at row r)

-- what the join of two registers made of the first
pub record JoinsRegister (bounds : List ℕ) (left right join : Register) : Type 0 where
  pub register : IsRegister join
  pub kept : IsValidRegister bounds left → IsValidRegister bounds join
  pub is_join : IsValidRegister bounds left → IsValidRegister bounds right → IsJoin register_below (IsValidRegister bounds) left right join
  pub least : IsLeast register_below (IsValidRegister bounds) left right join

-- the first n registers are joined
abbrev pub IsJoinedRow : List ℕ → ℕ → List Register → List Register → List Register → Type 0
IsJoinedRow bounds n left right join =
    (r : ℕ) → r < n → JoinsRegister bounds (register_at left r) (register_at right r) (register_at join r)

-- each is joined
pub record JoinsRows (bounds : List ℕ) (left right join : List Register) : Type 0 where
  pub seventeen : length join ≡ 17
  pub joined : (r : ℕ) → JoinsRegister bounds (register_at left r) (register_at right r) (register_at join r)

-- the bound that each register's value names is among these
abbrev pub IsRowAmong : List ℕ → List Register → Type 0
IsRowAmong bounds row = (r : ℕ) → IsAmong bounds (register_at row r).value
