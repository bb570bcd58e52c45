-- The addresses that a state knows of memory operands.
use Rattle.std.specs.Prelude.{ℕ, ◌+◌, ◌-◌, ◌*◌, ◌%◌, ◌^◌, ◌==◌, ℤ, pos, negsuc, ◌+ℤ◌, ◌-ℤ◌, nat_lt, if◌then◌else◌, Option, Some, None}
use Rattle.vw_insn.specs.declared.registers.Reg.{Reg}
use Rattle.vw_insn.specs.declared.operands.Base.{Base}
use Rattle.vw_insn.specs.declared.operands.Base.TheVariants as base
use Rattle.vw_insn.specs.declared.operands.Mem.{Mem}
use Rattle.vw_insn.specs.Words.{number, word_of}
use Rattle.vw_names.specs.declared.spot.Spot.TheVariants.{Reg as RegisterOf}
use Rattle.vw_stack.specs.declared.offset.Offset.{Offset}
use Rattle.vw_stack.specs.declared.offset.Offset.TheVariants as offset
use Rattle.vw_values.specs.declared.value.Via.{Via}
use Rattle.vw_values.specs.declared.value.Via.TheVariants.{At, Idx}
use Rattle.vw_values.specs.declared.value.Value.{Value}
use Rattle.vw_values.specs.declared.value.Value.TheVariants as value
use Rattle.vw_values.specs.declared.extent.Extent.{Extent}
use Rattle.vw_values.specs.declared.extent.Extent.TheVariants.{Exactly, Under, Unbounded, Other}
use Rattle.vw_values.specs.Bounds.{first_from}
use Rattle.vw_values.specs.Sums.{extent_of, add}
use Rattle.vw_domain.specs.Abstract.{Abstract}
use Rattle.vw_domain.specs.Sites.{Site}

-- what is known of an address
pub data Address : Type 0 where
  -- this distance from the value of rsp at the function's entry
  Frame : (c : ℤ) → Address
  -- at least l and at most h from the heap's base
  Heap : (l h : ℤ) → Address
  -- at least l and at most h from the address of the globals
  Globals : (l h : ℤ) → Address
  -- this address of the image
  Image : (a : ℕ) → Address
  -- in the image, at a plus s times a number below k
  Range : (a s k : ℕ) → Address
  -- d bytes from the start of an entry of table t, which has the tag where one is known, and which a register tells
  Entry : (t : ℕ) (tag : Option ℕ) (d : ℕ) (via : Via) → Address
  Unknown : Address

-- the value of a register
abbrev pub value_of : Abstract → ℕ → Value
value_of st r = st.values (RegisterOf r)

-- a word as a signed number
abbrev pub signed : ℕ → ℤ
signed c = if nat_lt c (2 ^ 63) then pos c else (pos c -ℤ pos (2 ^ 64))

-- s times a word, as a signed number
abbrev pub signed_times : ℕ → ℕ → ℤ
signed_times s c = if nat_lt c (2 ^ 63) then pos (s * c) else (pos (s * c) -ℤ pos (s * 2 ^ 64))

-- ---- by a base alone

-- d bytes from the start of an entry
abbrev pub in_entry : ℕ → Option ℕ → ℤ → Via → Option Address
in_entry t tag (pos d) via = Some (Entry t tag d via)
in_entry t tag (negsuc d) via = None

abbrev pub known_or : Option Address → Option Address → Address
known_or (Some a) b = a
known_or None (Some b) = b
known_or None None = Unknown

-- register r holds this value, and no distance of it from rsp is known
abbrev pub by_value : ℕ → Value → ℤ → Option Address
by_value r value.HeapBase d = Some (Heap d d)
by_value r value.HeapAddr d = Some (Heap d (d +ℤ pos (2 ^ 32 - 1)))
by_value r value.Globals d = Some (Globals d d)
by_value r (value.Image a) d = Some (Image ((a + word_of d) % 2 ^ 64))
by_value r (value.EntryPtr t) d = in_entry t None d (At r)
by_value r (value.EntryTyped t g) d = in_entry t (Some g) d (At r)
by_value r value.Any d = None
by_value r value.Num d = None
by_value r (value.Const c) d = None
by_value r (value.Below j) d = None
by_value r (value.Low j) d = None
by_value r (value.Both j) d = None
by_value r (value.Entry q) d = None
by_value r (value.Index16 j m) d = None
by_value r (value.TagOf u read) d = None
by_value r (value.TableFn u h) d = None
by_value r (value.JumpOff b j) d = None
by_value r (value.JumpDest b j) d = None

-- d bytes from the address that register r holds
abbrev pub by_base : ℕ → Offset → Value → ℤ → Address
by_base r (offset.Known c) v d = Frame (c +ℤ d)
by_base r offset.Unknown v d = known_or (by_value r v d) None

-- ---- by a base and an index

-- the least and the greatest of s times a number of this kind
abbrev pub spread : ℕ → Extent → Option (ℤ × ℤ)
spread s (Exactly c) = Some (signed_times s c, signed_times s c)
spread s (Under k) = Some (pos 0, pos (s * (k - 1)))
spread s Unbounded = None
spread s (Other v) = None

abbrev pub in_heap : Option (ℤ × ℤ) → ℤ → ℤ → Option Address
in_heap None d more = None
in_heap (Some z) d more = Some (Heap (z.0 +ℤ d) (z.1 +ℤ d +ℤ more))

abbrev pub in_globals : Option (ℤ × ℤ) → ℤ → Option Address
in_globals None d = None
in_globals (Some z) d = Some (Globals (z.0 +ℤ d) (z.1 +ℤ d))

abbrev pub in_range : ℕ → ℕ → Option ℕ → Option Address
in_range a s None = None
in_range a s (Some k) = Some (Range a s k)

-- the sum of a table's address and the distance of an entry
abbrev pub in_table : Value → ℤ → Via → Option Address
in_table (value.EntryPtr t) d via = in_entry t None d via
in_table (value.EntryTyped t g) d via = in_entry t (Some g) d via
in_table value.Any d via = None
in_table value.Num d via = None
in_table (value.Const c) d via = None
in_table (value.Below j) d via = None
in_table (value.Low j) d via = None
in_table (value.Both j) d via = None
in_table value.HeapBase d via = None
in_table value.HeapAddr d via = None
in_table value.Globals d via = None
in_table (value.Entry q) d via = None
in_table (value.Image b) d via = None
in_table (value.Index16 j m) d via = None
in_table (value.TagOf u read) d via = None
in_table (value.TableFn u h) d via = None
in_table (value.JumpOff b j) d via = None
in_table (value.JumpDest b j) d via = None

-- an index of entries, at scale 1 alone
abbrev pub by_symbol : Site → ℕ → ℕ → Value → ℕ → ℤ → Option Address
by_symbol site a i (value.Index16 k m) s d = if s == 1 then in_table (add (value.Image a) (value.Index16 k m) site.tables) d (Idx i) else None
by_symbol site a i value.Any s d = None
by_symbol site a i value.Num s d = None
by_symbol site a i (value.Const c) s d = None
by_symbol site a i (value.Below j) s d = None
by_symbol site a i (value.Low j) s d = None
by_symbol site a i (value.Both j) s d = None
by_symbol site a i value.HeapBase s d = None
by_symbol site a i value.HeapAddr s d = None
by_symbol site a i value.Globals s d = None
by_symbol site a i (value.Entry q) s d = None
by_symbol site a i (value.Image b) s d = None
by_symbol site a i (value.EntryPtr u) s d = None
by_symbol site a i (value.EntryTyped u h) s d = None
by_symbol site a i (value.TagOf u read) s d = None
by_symbol site a i (value.TableFn u h) s d = None
by_symbol site a i (value.JumpOff b j) s d = None
by_symbol site a i (value.JumpDest b j) s d = None

-- an address of the image and s times register i
abbrev pub by_image : Site → ℕ → ℕ → Extent → ℕ → ℤ → Option Address
by_image site a i (Exactly c) s d = in_range ((a + word_of d) % 2 ^ 64) s (first_from (c + 1) site.bounds)
by_image site a i (Under k) s d = Some (Range ((a + word_of d) % 2 ^ 64) s k)
by_image site a i Unbounded s d = None
by_image site a i (Other v) s d = by_symbol site a i v s d

-- a base of the first value and s times register i, which has the second
abbrev pub by_pair : Site → Value → ℕ → Value → ℕ → ℤ → Option Address
by_pair site value.HeapBase i y s d = in_heap (spread s (extent_of y)) d (pos 0)
by_pair site value.HeapAddr i y s d = in_heap (spread s (extent_of y)) d (pos (2 ^ 32 - 1))
by_pair site value.Globals i y s d = in_globals (spread s (extent_of y)) d
by_pair site (value.Image a) i y s d = by_image site a i (extent_of y) s d
by_pair site value.Any i y s d = None
by_pair site value.Num i y s d = None
by_pair site (value.Const c) i y s d = None
by_pair site (value.Below k) i y s d = None
by_pair site (value.Low k) i y s d = None
by_pair site (value.Both k) i y s d = None
by_pair site (value.Entry r) i y s d = None
by_pair site (value.Index16 k m) i y s d = None
by_pair site (value.EntryPtr t) i y s d = None
by_pair site (value.EntryTyped t g) i y s d = None
by_pair site (value.TagOf t via) i y s d = None
by_pair site (value.TableFn t g) i y s d = None
by_pair site (value.JumpOff a k) i y s d = None
by_pair site (value.JumpDest a k) i y s d = None

-- base and index may change places at scale 1
abbrev pub by_index : Site → Abstract → ℕ → ℕ → ℕ → ℤ → Address
by_index site st r i s d =
    known_or (by_pair site (value_of st r) i (value_of st i) s d) (if s == 1 then by_pair site (value_of st i) r (value_of st r) 1 d else None)

-- an index alone is a base at scale 1
abbrev pub by_index_alone : Abstract → ℕ → ℕ → ℤ → Address
by_index_alone st i s d = if s == 1 then by_base i (st.offsets i) (value_of st i) d else Unknown

abbrev pub by_parts : Site → Abstract → Base → Option (Reg × ℕ) → ℤ → Address
by_parts site st base.Rip index d = Image ((site.next + word_of d) % 2 ^ 64)
by_parts site st base.None None d = Unknown
by_parts site st base.None (Some i) d = by_index_alone st (number i.0) i.1 d
by_parts site st (base.Reg r) None d = by_base (number r) (st.offsets (number r)) (value_of st (number r)) d
by_parts site st (base.Reg r) (Some i) d = by_index site st (number r) (number i.0) i.1 d

-- what a state knows of the address of a memory operand (SDM volume 1, 3.7.5)
abbrev pub address_of : Site → Abstract → Mem → Address
address_of site st mem = by_parts site st mem.base mem.index mem.disp
