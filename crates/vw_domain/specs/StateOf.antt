-- The state of an abstract form: its parts, as functions of the form alone. Its lists go over the whole frame: proofs
-- reason about them, and nothing computes them.
use Rattle.std.specs.Prelude.{ℕ, zero, suc, ◌+◌, ◌/◌, ◌^◌, ◌==◌, ℤ, pos, negsuc, ◌+ℤ◌, ◌-ℤ◌, Bool, false, ◌&&◌, ◌||◌, if◌then◌else◌, nat_lt, List, [], ◌∷◌, Option, Some, None}
use Rattle.std.specs.List.{cons_option}
use Rattle.std.specs.Option.{option_map}
use Rattle.std.specs.Ordering.{int_eq}
use Rattle.vw_names.specs.declared.spot.Spot.{Spot}
use Rattle.vw_names.specs.declared.spot.Spot.TheVariants.{Reg, Flags, Slot}
use Rattle.vw_values.specs.declared.value.Value.{Value}
use Rattle.vw_domain.specs.declared.parts.Parts.{Parts}
use Rattle.vw_domain.specs.declared.registers.Register.{Register}
use Rattle.vw_domain.specs.State.{wide_key, narrow_key, key_of}
use Rattle.vw_domain.specs.Abstract.{Abstract}

-- ---- lists of what is told of each number from a first one on, so many of them

-- the items at these numbers
unfoldable pub row_of : {A : Type 0} → (ℕ → A) → ℕ → ℕ → List A
row_of item zero first = []
row_of item (suc n) first = item first ∷ row_of item n (suc first)

-- the map of the keys that have an entry
unfoldable pub map_of : {V : Type 0} → (ℤ → Option V) → ℕ → ℤ → List (ℤ × V)
map_of entry zero first = []
map_of entry (suc n) first = cons_option (option_map (λ v. (first, v)) (entry first)) (map_of entry n (first +ℤ pos 1))

-- an offset in front of the first range: in one range with it where the two touch
abbrev pub with_front : ℤ → List (ℤ × ℤ) → List (ℤ × ℤ)
with_front first [] = (first, first) ∷ []
with_front first (range ∷ rest) = if int_eq (first +ℤ pos 1) range.0 then (first, range.1) ∷ rest else (first, first) ∷ range ∷ rest

-- the ranges of the offsets that are in a set
unfoldable pub ranges_of : (ℤ → Bool) → ℕ → ℤ → List (ℤ × ℤ)
ranges_of is_in zero first = []
ranges_of is_in (suc n) first = let rest = ranges_of is_in n (first +ℤ pos 1) in if is_in first then with_front first rest else rest

-- the division in which each number has this root
unfoldable pub division_of : (ℕ → ℕ) → ℕ → ℕ → List (ℕ × ℕ)
division_of root zero first = []
division_of root (suc n) first =
    let rest = division_of root n (suc first) in if nat_lt (root first) first then (first, root first) ∷ rest else rest

-- the least number up to n that passes, and n where none does
unfoldable pub least : (ℕ → Bool) → ℕ → ℕ
least test zero = zero
least test (suc n) = if test (least test n) then least test n else suc n

-- ---- the places of a form, by their keys and numbers

-- half of a number, rounded down
abbrev pub half : ℤ → ℤ
half (pos n) = pos (n / 2)
half (negsuc n) = negsuc (n / 2)

-- whether there is a slot at o that has the key z
abbrev pub has_key : Abstract → ℤ → ℤ → Bool
has_key form z o = (int_eq z (wide_key o) && (form.sizes o == 8)) || (int_eq z (narrow_key o) && (form.sizes o == 4))

-- the offset of the slot that has this key
unfoldable pub slot_under : Abstract → ℤ → Option ℤ
slot_under form z = if has_key form z (half z) then Some (half z) else None

-- its value
abbrev pub entry_at : Abstract → ℤ → Option Value
entry_at form z = option_map (λ o. form.values (Slot o)) (slot_under form z)

-- the place that has this number in the classes
unfoldable pub place_at : Abstract → ℕ → Option Spot
place_at form a = if nat_lt a 17 then Some (Reg a) else (if a == 256 then Some Flags else option_map Slot (slot_under form (key_of a)))

abbrev pub are_same : Abstract → Option Spot → Option Spot → Bool
are_same form None q = false
are_same form (Some p) None = false
are_same form (Some p) (Some q) = form.same p q

-- two numbers are one, or those of places in one class
abbrev pub together : Abstract → ℕ → ℕ → Bool
together form a b = (a == b) || are_same form (place_at form a) (place_at form b)

-- ---- the parts

abbrev pub register_of : Abstract → ℕ → Register
register_of form r = record { offset = form.offsets r; value = form.values (Reg r) }

abbrev pub registers_of : Abstract → List Register
registers_of form = row_of (register_of form) 17 0

-- offsets from -2^32 to -1
abbrev pub written_of : Abstract → List (ℤ × ℤ)
written_of form = ranges_of form.written (2 ^ 32) (pos 0 -ℤ pos (2 ^ 32))

-- keys from -2^33 to 2^33 + 1, those of offsets from -2^32 to 2^32
abbrev pub slots_of : Abstract → List (ℤ × Value)
slots_of form = map_of (entry_at form) (2 ^ 34 + 2) (pos 0 -ℤ pos (2 ^ 33))

-- numbers below 2^64 + 2^34, among which are those of all places; the root of a class is its least number
abbrev pub classes_of : Abstract → List (ℕ × ℕ)
classes_of form = division_of (λ a. least (together form a) a) (2 ^ 64 + 2 ^ 34) 0

unfoldable pub state_of : Abstract → Parts
state_of form = record {
  registers = registers_of form;
  probed = form.probed;
  written = written_of form;
  slots = slots_of form;
  classes = classes_of form;
  fact = form.fact;
}
