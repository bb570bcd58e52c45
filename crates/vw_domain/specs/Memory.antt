-- What loads and stores do to a state.
use Rattle.std.specs.Prelude.{ℕ, ◌^◌, ◌==◌, ℤ, pos, negsuc, Bool, true, false, ◌&&◌, ◌||◌, not, int_le, int_lt, nat_le, if◌then◌else◌, Option, Some, None}
use Rattle.std.specs.Ordering.{int_eq}
use Rattle.vw_insn.specs.declared.registers.Width.{Width}
use Rattle.vw_insn.specs.declared.registers.Width.TheVariants.{W8, W16, W32, W64}
use Rattle.vw_stmt.specs.declared.operands.Operand.{Operand}
use Rattle.vw_names.specs.declared.spot.Spot.{Spot}
use Rattle.vw_names.specs.declared.spot.Spot.TheVariants.{Slot}
use Rattle.vw_values.specs.declared.value.Via.{Via}
use Rattle.vw_values.specs.declared.value.Value.{Value}
use Rattle.vw_values.specs.declared.value.Value.TheVariants as value
use Rattle.vw_values.specs.declared.value.Value.TheVariants.{Any, Num, Const, Below, TagOf, TableFn, JumpOff}
use Rattle.vw_values.specs.Narrowing.{narrow32}
use Rattle.vw_domain.specs.Abstract.{Abstract}
use Rattle.vw_domain.specs.Changes.{store_frame, lose_slots}
use Rattle.vw_domain.specs.Sites.{Site, Word, Plain, Based, Other}
use Rattle.vw_domain.specs.Addresses.{Address, Frame, Heap, Globals, Image, Range, Entry, Unknown}
use Rattle.vw_domain.specs.Operands.{operand_place}

-- ---- loads

-- the reservation of the heap: 2 ^ 33 bytes
abbrev pub is_in_heap : ℤ → ℤ → Bool
is_in_heap l h = int_le (pos 0) l && int_lt h (pos (2 ^ 33))

-- a whole word, or 32 bits that are extended to one by their sign: a number where the heap or the globals hold it, since
-- what the sandbox writes there it may also make up
abbrev pub wide_value : Address → Value
wide_value (Heap l h) = if is_in_heap l h then Num else Any
wide_value (Globals l h) = Num
wide_value (Frame c) = Any
wide_value (Image a) = Any
wide_value (Range a s k) = Any
wide_value (Entry t tag d via) = Any
wide_value Unknown = Any

-- The value of a load where its address tells nothing more; none where the address tells whether it is a number.
abbrev pub plain_kind : ℕ → Width → Bool → Option Value
plain_kind size W8 signed = Some Num
plain_kind size W16 signed = Some Num
plain_kind size W32 true = Some (Below (2 ^ 32))
plain_kind size W32 false = Some (Below (256 ^ size))
plain_kind size W64 true = if size == 4 then None else Some Num
plain_kind size W64 false = if size == 8 then None else Some (Below (256 ^ size))

abbrev pub value_or : Option Value → Value → Value
value_or None v = v
value_or (Some u) v = u

abbrev pub word_value : Word → Option Value
word_value (Plain x) = Some (Const x)
word_value (Based a) = Some (value.Image a)
word_value Other = None

abbrev pub half_word_value : Word → Option Value
half_word_value (Plain x) = Some (Const x)
half_word_value (Based a) = None
half_word_value Other = None

-- the function of an entry with a known tag
abbrev pub function_value : ℕ → Option ℕ → Option Value
function_value t None = None
function_value t (Some g) = Some (TableFn t g)

-- an entry holds its tag, and behind it its function
abbrev pub entry_value : ℕ → Option ℕ → ℕ → Via → Option Value
entry_value t tag d via = if d == 0 then Some (TagOf t via) else (if d == 8 then function_value t tag else None)

-- what eight bytes at an address are known to be; those below the heap hold the address of the globals
abbrev pub whole_value : Site → Address → Option Value
whole_value site (Heap l h) = if int_eq l (negsuc 7) && int_eq h (negsuc 7) then Some value.Globals else None
whole_value site (Image a) = word_value (site.word_at a 8)
whole_value site (Entry t tag d via) = entry_value t tag d via
whole_value site (Frame c) = None
whole_value site (Globals l h) = None
whole_value site (Range a s k) = None
whole_value site Unknown = None

-- what four bytes are known to be, without their sign
abbrev pub half_value : Site → Address → Option Value
half_value site (Image a) = half_word_value (site.word_at a 4)
half_value site (Frame c) = None
half_value site (Heap l h) = None
half_value site (Globals l h) = None
half_value site (Range a s k) = None
half_value site (Entry t tag d via) = None
half_value site Unknown = None

-- what four bytes are known to be, extended to 64 bits by their sign: an offset from a table of jumps
abbrev pub offset_value : Address → Option Value
offset_value (Range a s k) = if (s == 4) && nat_le k 65536 then Some (JumpOff a k) else None
offset_value (Frame c) = None
offset_value (Heap l h) = None
offset_value (Globals l h) = None
offset_value (Image a) = None
offset_value (Entry t tag d via) = None
offset_value Unknown = None

abbrev pub known_value : Site → Address → ℕ → Width → Bool → Option Value
known_value site addr size W8 signed = None
known_value site addr size W16 signed = None
known_value site addr size W32 true = None
known_value site addr size W32 false = if size == 4 then half_value site addr else None
known_value site addr size W64 true = if size == 4 then offset_value addr else None
known_value site addr size W64 false = if size == 8 then whole_value site addr else (if size == 4 then half_value site addr else None)

-- the low four bytes of a slot of eight, without their sign
abbrev pub slot_half : Abstract → Address → ℕ → Bool → Option Value
slot_half st (Frame c) size signed = if ((size == 4) && not signed) && (st.sizes c == 8) then Some (narrow32 (st.values (Slot c))) else None
slot_half st (Heap l h) size signed = None
slot_half st (Globals l h) size signed = None
slot_half st (Image a) size signed = None
slot_half st (Range a s k) size signed = None
slot_half st (Entry t tag d via) size signed = None
slot_half st Unknown size signed = None

-- the value of so many bytes at an address, extended to a width
abbrev pub load_value : Site → Abstract → Address → ℕ → Width → Bool → Value
load_value site st addr size to signed =
    value_or (slot_half st addr size signed) (value_or (known_value site addr size to signed) (value_or (plain_kind size to signed) (wide_value addr)))

-- the slot of which a load is a copy
abbrev pub load_source : Abstract → Address → ℕ → Bool → Option Spot
load_source st (Frame c) size signed = if ((size == 8) || ((size == 4) && not signed)) && (st.sizes c == size) then Some (Slot c) else None
load_source st (Heap l h) size signed = None
load_source st (Globals l h) size signed = None
load_source st (Image a) size signed = None
load_source st (Range a s k) size signed = None
load_source st (Entry t tag d via) size signed = None
load_source st Unknown size signed = None

-- ---- stores

-- the size of the slot that a store of so many bytes leaves
abbrev pub slot_size : ℕ → ℕ
slot_size size = if size == 8 then 8 else (if size == 4 then 4 else 0)

abbrev pub stored_value : ℕ → Value → Value
stored_value size v = if size == 8 then v else (if size == 4 then narrow32 v else Any)

-- a word of eight bytes stays in the class of the place that it comes from
abbrev pub stored_source : ℕ → Operand → Option Spot
stored_source size src = if size == 8 then operand_place src else None

-- n bytes are written at an address: in the frame slots change, and at an unknown place all may have
abbrev pub store_at : Abstract → Address → ℕ → ℕ → Option Spot → Value → Abstract
store_at st (Frame c) n size src v = store_frame st c n size src v
store_at st Unknown n size src v = lose_slots st
store_at st (Heap l h) n size src v = st
store_at st (Globals l h) n size src v = st
store_at st (Image a) n size src v = st
store_at st (Range a s k) n size src v = st
store_at st (Entry t tag d via) n size src v = st
