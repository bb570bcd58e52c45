-- What each statement does to a state.
use Rattle.std.specs.Prelude.{ℕ, zero, suc, ◌+◌, ◌-◌, ◌%◌, ◌^◌, ◌==◌, ℤ, pos, negsuc, ◌+ℤ◌, ◌-ℤ◌, Bool, true, false, ◌&&◌, int_le, if◌then◌else◌, List, [], ◌∷◌, Option, Some, None}
use Rattle.std.specs.Ordering.{int_eq}
use Rattle.vw_insn.specs.declared.registers.Reg.{Reg}
use Rattle.vw_insn.specs.declared.registers.Width.{Width}
use Rattle.vw_insn.specs.declared.registers.Width.TheVariants.{W8, W16, W32, W64}
use Rattle.vw_insn.specs.declared.operands.Base.{Base}
use Rattle.vw_insn.specs.declared.operands.Base.TheVariants as base
use Rattle.vw_insn.specs.declared.operands.Mem.{Mem}
use Rattle.vw_insn.specs.Words.{number, word_of, low}
use Rattle.vw_stmt.specs.declared.operands.Compare.{Compare}
use Rattle.vw_stmt.specs.declared.statement.Stmt.{Stmt}
use Rattle.vw_stmt.specs.declared.statement.Stmt.TheVariants as stmt
use Rattle.vw_names.specs.declared.spot.Spot.{Spot}
use Rattle.vw_names.specs.declared.spot.Spot.TheVariants.{Reg as RegisterOf}
use Rattle.vw_stack.specs.declared.offset.Offset.{Offset}
use Rattle.vw_stack.specs.declared.offset.Offset.TheVariants as offset
use Rattle.vw_values.specs.declared.value.Value.{Value}
use Rattle.vw_values.specs.declared.value.Value.TheVariants.{Any, Num, Const, Below, Low, Both, HeapBase, HeapAddr, Globals, Entry, Image, Index16, EntryPtr, EntryTyped, TagOf, TableFn, JumpOff, JumpDest}
use Rattle.vw_values.specs.Joins.{join}
use Rattle.vw_values.specs.Sums.{add, subtract}
use Rattle.vw_values.specs.Narrowing.{narrow, narrow32, any_number}
use Rattle.vw_values.specs.Masks.{and}
use Rattle.vw_values.specs.Scales.{scale, shl4}
use Rattle.vw_domain.specs.declared.parts.Fact.TheVariants as fact
use Rattle.vw_domain.specs.Abstract.{Abstract}
use Rattle.vw_domain.specs.Changes.{write, set_flags}
use Rattle.vw_domain.specs.Sites.{Site}
use Rattle.vw_domain.specs.Addresses.{value_of, signed, address_of}
use Rattle.vw_domain.specs.Operands.{index_of, operand_of, operand_offset}
use Rattle.vw_domain.specs.Memory.{load_value, load_source, store_at, slot_size, stored_value, stored_source}

-- ---- distances from the value of rsp at the function's entry

-- the distance, where it is at most 2 ^ 31 in size
abbrev pub is_small : ℤ → Bool
is_small c = int_le (negsuc (2 ^ 31 - 1)) c && int_le c (pos (2 ^ 31))

abbrev pub small : ℤ → Offset
small c = if is_small c then offset.Known c else offset.Unknown

-- a distance and a value that is added, or subtracted where `minus`
abbrev pub moved_by : Bool → ℤ → Value → Offset
moved_by true c (Const d) = small (c -ℤ signed d)
moved_by false c (Const d) = small (c +ℤ signed d)
moved_by minus c Any = offset.Unknown
moved_by minus c Num = offset.Unknown
moved_by minus c (Below k) = offset.Unknown
moved_by minus c (Low k) = offset.Unknown
moved_by minus c (Both k) = offset.Unknown
moved_by minus c HeapBase = offset.Unknown
moved_by minus c HeapAddr = offset.Unknown
moved_by minus c Globals = offset.Unknown
moved_by minus c (Entry r) = offset.Unknown
moved_by minus c (Image a) = offset.Unknown
moved_by minus c (Index16 k m) = offset.Unknown
moved_by minus c (EntryPtr t) = offset.Unknown
moved_by minus c (EntryTyped t g) = offset.Unknown
moved_by minus c (TagOf t via) = offset.Unknown
moved_by minus c (TableFn t g) = offset.Unknown
moved_by minus c (JumpOff a k) = offset.Unknown
moved_by minus c (JumpDest a k) = offset.Unknown

abbrev pub moved : Bool → Offset → Value → Offset
moved minus offset.Unknown v = offset.Unknown
moved minus (offset.Known c) v = moved_by minus c v

-- of a memory operand without an index
abbrev pub lea_offset_of : Offset → ℤ → Offset
lea_offset_of offset.Unknown d = offset.Unknown
lea_offset_of (offset.Known c) d = small (c +ℤ d)

abbrev pub lea_offset_by : Abstract → Base → Option (Reg × ℕ) → ℤ → Offset
lea_offset_by st base.Rip i d = offset.Unknown
lea_offset_by st base.None i d = offset.Unknown
lea_offset_by st (base.Reg r) None d = lea_offset_of (st.offsets (number r)) d
lea_offset_by st (base.Reg r) (Some i) d = offset.Unknown

abbrev pub lea_offset : Abstract → Mem → Offset
lea_offset st mem = lea_offset_by st mem.base mem.index mem.disp

abbrev pub offset_of_both : Offset → Offset → Offset
offset_of_both offset.Unknown b = offset.Unknown
offset_of_both (offset.Known a) offset.Unknown = offset.Unknown
offset_of_both (offset.Known a) (offset.Known b) = if int_eq a b then offset.Known a else offset.Unknown

-- a choice of less than the whole word tells no distance
abbrev pub chosen_offset : Width → Offset → Offset → Offset
chosen_offset W8 a b = offset.Unknown
chosen_offset W16 a b = offset.Unknown
chosen_offset W32 a b = offset.Unknown
chosen_offset W64 a b = offset_of_both a b

-- ---- values

abbrev pub sum_value : Site → Bool → Value → Value → Value
sum_value site true x y = subtract x y site.tables
sum_value site false x y = add x y site.tables

-- a displacement of 0 leaves the value
abbrev pub plus_disp : Site → Value → ℤ → Value
plus_disp site v (pos zero) = v
plus_disp site v (pos (suc n)) = add v (Const (word_of (pos (suc n)))) site.tables
plus_disp site v (negsuc n) = add v (Const (word_of (negsuc n))) site.tables

abbrev pub lea_by : Site → Abstract → ℤ → Base → Option (Reg × ℕ) → Value
lea_by site st disp base.Rip index = Image ((site.next + word_of disp) % 2 ^ 64)
lea_by site st disp base.None None = Const (word_of disp)
lea_by site st disp base.None (Some i) = plus_disp site (scale (value_of st (number i.0)) i.1) disp
lea_by site st disp (base.Reg r) None = plus_disp site (value_of st (number r)) disp
lea_by site st disp (base.Reg r) (Some i) = plus_disp site (add (value_of st (number r)) (scale (value_of st (number i.0)) i.1) site.tables) disp

abbrev pub lea_value : Site → Abstract → Mem → Value
lea_value site st mem = lea_by site st mem.disp mem.base mem.index

abbrev pub chosen_value : Site → Width → Value → Value → Value
chosen_value site W8 x y = Num
chosen_value site W16 x y = Num
chosen_value site W32 x y = join site.bounds (narrow32 x) (narrow32 y)
chosen_value site W64 x y = join site.bounds x y

-- a copy of a register to itself leaves it alone in its class
abbrev pub copy_source : ℕ → ℕ → Option Spot
copy_source d s = if s == d then None else Some (RegisterOf s)

-- ---- flags

abbrev pub bits : Width → ℕ
bits W8 = 8
bits W16 = 16
bits W32 = 32
bits W64 = 64

-- a comparison of register a with a value tells something where that is a number
abbrev pub compared_with : Abstract → Width → ℕ → Value → Abstract
compared_with st w a (Const c) = set_flags st (Some (RegisterOf a)) (fact.Compare (bits w) (low w c))
compared_with st w a Any = set_flags st None fact.Unknown
compared_with st w a Num = set_flags st None fact.Unknown
compared_with st w a (Below j) = set_flags st None fact.Unknown
compared_with st w a (Low j) = set_flags st None fact.Unknown
compared_with st w a (Both j) = set_flags st None fact.Unknown
compared_with st w a HeapBase = set_flags st None fact.Unknown
compared_with st w a HeapAddr = set_flags st None fact.Unknown
compared_with st w a Globals = set_flags st None fact.Unknown
compared_with st w a (Entry q) = set_flags st None fact.Unknown
compared_with st w a (Image b) = set_flags st None fact.Unknown
compared_with st w a (Index16 j m) = set_flags st None fact.Unknown
compared_with st w a (EntryPtr u) = set_flags st None fact.Unknown
compared_with st w a (EntryTyped u h) = set_flags st None fact.Unknown
compared_with st w a (TagOf u read) = set_flags st None fact.Unknown
compared_with st w a (TableFn u h) = set_flags st None fact.Unknown
compared_with st w a (JumpOff b j) = set_flags st None fact.Unknown
compared_with st w a (JumpDest b j) = set_flags st None fact.Unknown

abbrev pub flags_after : Abstract → Option Compare → Abstract
flags_after st None = set_flags st None fact.Unknown
flags_after st (Some c) = compared_with st c.w (index_of c.a) (operand_of st c.b)

-- ---- statements

-- the state after a statement; Flow alone changes nothing
abbrev pub apply : Site → Stmt → Abstract → Abstract
apply site (stmt.Set dst c) st = write st (index_of dst) None (Const c) offset.Unknown
apply site (stmt.Copy dst src) st = write st (index_of dst) (copy_source (index_of dst) (index_of src)) (value_of st (index_of src)) (st.offsets (index_of src))
apply site (stmt.Narrow dst src from to signed) st = write st (index_of dst) None (narrow (value_of st (index_of src)) from to signed) offset.Unknown
apply site (stmt.Sum dst a b minus) st =
    write st (index_of dst) None (sum_value site minus (value_of st (index_of a)) (operand_of st b)) (moved minus (st.offsets (index_of a)) (operand_of st b))
apply site (stmt.Lea dst mem) st = write st (index_of dst) None (lea_value site st mem) (lea_offset st mem)
apply site (stmt.And dst w a b) st = write st (index_of dst) None (and (value_of st (index_of a)) (operand_of st b) w site.bounds) offset.Unknown
apply site (stmt.Shl dst) st = write st (index_of dst) None (shl4 (value_of st (index_of dst)) site.bounds) offset.Unknown
apply site (stmt.Open dst w) st = write st (index_of dst) None (any_number w) offset.Unknown
apply site (stmt.Choose dst w a b) st =
    write st (index_of dst) None (chosen_value site w (value_of st (index_of a)) (operand_of st b)) (chosen_offset w (st.offsets (index_of a)) (operand_offset st b))
apply site (stmt.Load dst size to signed mem) st =
    write st (index_of dst) (load_source st (address_of site st mem) size signed) (load_value site st (address_of site st mem) size to signed) offset.Unknown
apply site (stmt.Store mem size src) st = store_at st (address_of site st mem) size (slot_size size) (stored_source size src) (stored_value size (operand_of st src))
apply site (stmt.Touch mem size true) st = store_at st (address_of site st mem) size 0 None Any
apply site (stmt.Touch mem size false) st = st
apply site (stmt.Flags fact) st = flags_after st fact
apply site (stmt.Flow f) st = st

-- the state after the statements of an instruction
abbrev pub applies : Site → List Stmt → Abstract → Abstract
applies site [] st = st
applies site (s ∷ stmts) st = applies site stmts (apply site s st)

-- after an instruction tmp holds any number
abbrev pub finish : Abstract → Abstract
finish st = write st 16 None Any offset.Unknown
