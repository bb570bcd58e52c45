-- What a comparison leaves of the values in the class of the compared number, and what it tells of the entries of tables.
use Rattle.std.specs.Prelude.{◌≡◌, ℕ, zero, suc, ◌-◌, ◌^◌, ◌<◌, ◌==◌, ◌↔◌, ◌&&◌, ◌||◌, not, nat_lt, ℤ, Bool, true, false, is_some, List, Option, Some, None, length, get_or, Contains}
use Rattle.std.specs.Int.{bit_at}
use Rattle.std.specs.List.{list_any}
use Rattle.std.specs.Option.{option_map}
use Rattle.vw_insn.specs.declared.registers.Width.{Width}
use Rattle.vw_insn.specs.Listed.{IsWide}
use Rattle.vw_lattice.specs.Entries.{IsAscending, value_at}
use Rattle.vw_names.specs.declared.spot.Spot.{Spot}
use Rattle.vw_names.specs.declared.spot.Spot.TheVariants.{Reg}
use Rattle.vw_names.specs.Division.{root}
use Rattle.vw_names.specs.Spot.{slot_number}
use Rattle.vw_values.specs.declared.value.Value.{Value}
use Rattle.vw_values.specs.Refinements.{below, equal}
use Rattle.vw_domain.specs.declared.edge_tags.Tags.{Tags}
use Rattle.vw_domain.specs.declared.parts.Parts.{Parts}
use Rattle.vw_domain.specs.declared.refines.Comparison.{Comparison}
use Rattle.vw_domain.specs.declared.refines.Comparison.TheVariants.{Below, Equal}
use Rattle.vw_domain.specs.declared.registers.Register.{Register}
use Rattle.vw_domain.specs.Registers.{register_at}
use Rattle.vw_domain.specs.State.{IsState}
use Rattle.vw_domain.specs.Abstract.{Abstract, is_there}
use Rattle.vw_domain.specs.Branches.{Rule, IsLess, Is, rule_number, frame_places}
use Rattle.vw_domain.specs.Changes.{refined_by, mark, is_other}
use Rattle.vw_domain.specs.Stands.{Tag, tag_register}

-- what is left of a value; none where no number passes
abbrev pub refinement : Comparison → List ℕ → Value → Option Value
refinement (Below w k) bounds v = below v w k bounds
refinement (Equal w k) bounds v = equal v w k bounds

-- a comparison at 32 or 64 bits
abbrev pub IsComparison : Comparison → Type 0
IsComparison (Below w k) = IsWide w
IsComparison (Equal w k) = IsWide w × (k < 2 ^ 64)

-- the place with this number is in the class of the flags
abbrev pub is_compared : List (ℕ × ℕ) → ℕ → Bool
is_compared classes a = root classes 256 == root classes a

-- where a place is in that class, some number of its value passes
abbrev pub passes : Bool → Option Value → Bool
passes true x = is_some x
passes false x = true

-- ---- the rule of an edge

-- the width of the comparison, and what the edge tells of the number there
abbrev pub rule_told : Comparison → Width × Rule
rule_told (Below w k) = (w, IsLess k)
rule_told (Equal w k) = (w, Is k)

-- each place that is there is one of these
abbrev pub HoldsPlaces : List Spot → Parts → Type 0
HoldsPlaces places s = (p : Spot) → is_there s p ≡ true → Contains places p

abbrev pub FrameHoldsPlaces : Type 0
FrameHoldsPlaces = (s : Parts) → IsState s → HoldsPlaces frame_places s

-- ---- the tags that it tells

-- the number is a tag where the numbers are equal and an entry that is not empty can have it
abbrev pub tells_tag : Comparison → Bool
tells_tag (Below w k) = false
tells_tag (Equal w k) = nat_lt k (2 ^ 32 - 1)

-- the test holds of a number below n
abbrev pub any_below : (ℕ → Bool) → ℕ → Bool
any_below test zero = false
any_below test (suc n) = any_below test n || test n

-- the table is in the set that has these bits
abbrev pub is_in : ℕ → ℕ → Bool
is_in tables t = bit_at tables t == 1

-- and in the set of register r
abbrev pub is_told : List ℕ → ℕ → ℕ → Bool
is_told tables r t = is_in (get_or tables r 0) t

-- the tag is one of table t that was read by register r
abbrev pub is_tag_by : ℕ → ℕ → Option Tag → Bool
is_tag_by r t None = false
is_tag_by r t (Some g) = (g.register == r) && (g.table == t)

-- the value is one
abbrev pub tells : ℕ → ℕ → Value → Bool
tells r t v = is_tag_by r t (tag_register v)

-- the tag that a value is, where it counts, is in the sets too
pub record AddsTag (counts : Bool) (v : Value) (old new : List ℕ) : Type 0 where
  pub sixteen : length new ≡ 16
  pub told : (r t : ℕ) → is_told new r t ≡ (is_told old r t || (counts && tells r t v))

-- register q is in the class of the flags, and its value is such a tag
abbrev pub row_tells : List (ℕ × ℕ) → List Register → ℕ → ℕ → ℕ → Bool
row_tells classes row r t q = is_compared classes q && tells r t (register_at row q).value

pub record AddsRowTags (classes : List (ℕ × ℕ)) (row : List Register) (old new : List ℕ) : Type 0 where
  pub sixteen : length new ≡ 16
  pub told : (r t : ℕ) → is_told new r t ≡ (is_told old r t || any_below (row_tells classes row r t) 17)

-- and so it is with a slot
abbrev pub slot_tells : List (ℕ × ℕ) → ℕ → ℕ → ℤ × Value → Bool
slot_tells classes r t entry = is_compared classes (slot_number entry.0) && tells r t entry.1

pub record AddsSlotTags (classes : List (ℕ × ℕ)) (slots : List (ℤ × Value)) (old new : List ℕ) : Type 0 where
  pub sixteen : length new ≡ 16
  pub told : (r t : ℕ) → is_told new r t ≡ (is_told old r t || list_any (slot_tells classes r t) slots)

-- a tag of table t was compared that was read by register r
abbrev pub is_told_by : Parts → ℕ → ℕ → Bool
is_told_by s r t = any_below (row_tells s.classes s.registers r t) 17 || list_any (slot_tells s.classes r t) s.slots

-- the tags that a comparison tells of a state
pub record AreTags (s : Parts) (c : Comparison) (tags : Tags) : Type 0 where
  pub tag : tags.tag ≡ rule_number (rule_told c).1
  pub told : (r t : ℕ) → is_told tags.tables r t ≡ (tells_tag c && is_told_by s r t)

-- a tag of table t was read by a register in the class of the place with number a
abbrev pub is_tagged : List ℕ → List (ℕ × ℕ) → ℕ → ℕ → Bool
is_tagged tables classes a t = any_below (λ r. is_told tables r t && (root classes r == root classes a)) 16

-- the same of a place
abbrev pub is_tagged_at : Abstract → List ℕ → Spot → ℕ → Bool
is_tagged_at st tables p t = any_below (λ r. is_told tables r t && st.same (Reg r) p) 16

-- ---- what an edge leaves of values

-- the value in the place with number a is refined by f, and has the tag where it is that of an entry
abbrev pub left_value : List (ℕ × ℕ) → (Value → Option Value) → Tags → ℕ → Value → Value
left_value classes f tags a v = mark tags.tag (is_tagged tags.tables classes a) (refined_by (is_compared classes a) f v)

-- some number of it passes, and it tells no other tag
abbrev pub may_pass : List (ℕ × ℕ) → (Value → Option Value) → Tags → ℕ → Value → Bool
may_pass classes f tags a v = passes (is_compared classes a) (f v) && not (is_other tags.tag (is_tagged tags.tables classes a) v)

abbrev pub with_value_by : (ℕ → Value → Value) → ℕ → Register → Register
with_value_by g a r = record r { value = g a r.value }

-- each register's value becomes what g makes of it, and the answer is whether each passes a test
pub record EachRegister (g : ℕ → Value → Value) (test : ℕ → Value → Bool) (old new : List Register) (all : Bool) : Type 0 where
  pub seventeen : length new ≡ 17
  pub registers : (r : ℕ) → r < 17 → register_at new r ≡ with_value_by g r (register_at old r)
  pub edge : (all ≡ true) ↔ ((r : ℕ) → r < 17 → test r (register_at old r).value ≡ true)

-- and each slot's
pub record EachSlot (g : ℕ → Value → Value) (test : ℕ → Value → Bool) (old new : List (ℤ × Value)) (all : Bool) : Type 0 where
  pub ascending : IsAscending new
  pub values : (key : ℤ) → value_at new key ≡ option_map (g (slot_number key)) (value_at old key)
  pub edge : (all ≡ true) ↔ ((key : ℤ) (v : Value) → value_at old key ≡ Some v → test (slot_number key) v ≡ true)
