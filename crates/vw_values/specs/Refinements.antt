-- Values of a number after a comparison with a constant, at 32 or 64 bits.
use Rattle.std.specs.Prelude.{ℕ, ◌+◌, ◌%◌, ◌^◌, ◌==◌, ◌&&◌, nat_le, nat_lt, min, if◌then◌else◌, Bool, Option, Some, None, List}
use Rattle.vw_insn.specs.declared.registers.Width.{Width}
use Rattle.vw_insn.specs.declared.registers.Width.TheVariants.{W8, W16, W32, W64}
use Rattle.vw_insn.specs.Words.{low}
use Rattle.vw_values.specs.declared.value.Value.{Value}
use Rattle.vw_values.specs.declared.value.Value.TheVariants.{Any, Num, Const, Below, Low, Both, HeapBase, HeapAddr, Globals, Entry, Image, Index16, EntryPtr, EntryTyped, TagOf, TableFn, JumpOff, JumpDest}
use Rattle.vw_values.specs.Bounds.{first_from}

-- what is left of a number other than a Const where all its bits are below u: the greatest number that is below it and
-- below Below u; a Const, a symbol and Any are not asked for, and stay
abbrev pub cut_whole : ℕ → Value → Value
cut_whole u (Below j) = Below (min j u)
cut_whole u (Low j) = if nat_le u (2 ^ 32) then Below (min j u) else Both j
cut_whole u (Both j) = if nat_le u (2 ^ 32) then Below (min j u) else Both j
cut_whole u Num = Below u
cut_whole u Any = Any
cut_whole u (Const c) = Const c
cut_whole u HeapBase = HeapBase
cut_whole u HeapAddr = HeapAddr
cut_whole u Globals = Globals
cut_whole u (Entry r) = Entry r
cut_whole u (Image a) = Image a
cut_whole u (Index16 j mark) = Index16 j mark
cut_whole u (EntryPtr t) = EntryPtr t
cut_whole u (EntryTyped t g) = EntryTyped t g
cut_whole u (TagOf t via) = TagOf t via
cut_whole u (TableFn t g) = TableFn t g
cut_whole u (JumpOff a j) = JumpOff a j
cut_whole u (JumpDest a j) = JumpDest a j

-- the same where its low 32 bits are below u, which is below 2 ^ 32: the greatest number below it and below Low u
abbrev pub cut_half : ℕ → Value → Value
cut_half u (Below j) = if nat_le j (2 ^ 32) then Below (min j u) else Both u
cut_half u (Low j) = Low (min j u)
cut_half u (Both j) = Both (min j u)
cut_half u Num = Low u
cut_half u Any = Any
cut_half u (Const c) = Const c
cut_half u HeapBase = HeapBase
cut_half u HeapAddr = HeapAddr
cut_half u Globals = Globals
cut_half u (Entry r) = Entry r
cut_half u (Image a) = Image a
cut_half u (Index16 j mark) = Index16 j mark
cut_half u (EntryPtr t) = EntryPtr t
cut_half u (EntryTyped t g) = EntryTyped t g
cut_half u (TagOf t via) = TagOf t via
cut_half u (TableFn t g) = TableFn t g
cut_half u (JumpOff a j) = JumpOff a j
cut_half u (JumpDest a j) = JumpDest a j

-- the number stays where there is no bound, and at 32 bits where the bound is not below 2 ^ 32
abbrev pub cut : Width → Option ℕ → Value → Value
cut w None v = v
cut W8 (Some u) v = v
cut W16 (Some u) v = v
cut W32 (Some u) v = if nat_lt u (2 ^ 32) then cut_half u v else v
cut W64 (Some u) v = cut_whole u v

-- x < k, for a number other than a Const
abbrev pub cut_below : Value → Width → ℕ → List ℕ → Option Value
cut_below v w k bounds = if k == 0 then None else Some (cut w (first_from k bounds) v)

abbrev pub const_below : ℕ → Width → ℕ → Option Value
const_below c w k = if nat_lt (low w c) k then Some (Const c) else None

-- what is left of a value where x < k holds of the low bits of this width, and none where it holds of no number; Any
-- and symbols stay
abbrev pub below : Value → Width → ℕ → List ℕ → Option Value
below Any w k bounds = Some Any
below Num w k bounds = cut_below Num w k bounds
below (Const c) w k bounds = const_below c w k
below (Below j) w k bounds = cut_below (Below j) w k bounds
below (Low j) w k bounds = cut_below (Low j) w k bounds
below (Both j) w k bounds = cut_below (Both j) w k bounds
below HeapBase w k bounds = Some HeapBase
below HeapAddr w k bounds = Some HeapAddr
below Globals w k bounds = Some Globals
below (Entry r) w k bounds = Some (Entry r)
below (Image a) w k bounds = Some (Image a)
below (Index16 j mark) w k bounds = Some (Index16 j mark)
below (EntryPtr t) w k bounds = Some (EntryPtr t)
below (EntryTyped t g) w k bounds = Some (EntryTyped t g)
below (TagOf t via) w k bounds = Some (TagOf t via)
below (TableFn t g) w k bounds = Some (TableFn t g)
below (JumpOff a j) w k bounds = Some (JumpOff a j)
below (JumpDest a j) w k bounds = Some (JumpDest a j)

abbrev pub const_where : Bool → ℕ → Option Value
const_where test k = if test then Some (Const k) else None

-- what is left of a value where all 64 bits are k: a number that stands for k becomes it
abbrev pub equal_whole : Value → ℕ → Option Value
equal_whole Any k = Some Any
equal_whole Num k = Some (Const k)
equal_whole (Const c) k = const_where (c == k) k
equal_whole (Below j) k = const_where (nat_lt k j) k
equal_whole (Low j) k = const_where (nat_lt (k % 2 ^ 32) j) k
equal_whole (Both j) k = const_where (nat_lt k (2 ^ 33) && nat_lt (k % 2 ^ 32) j) k
equal_whole HeapBase k = Some HeapBase
equal_whole HeapAddr k = Some HeapAddr
equal_whole Globals k = Some Globals
equal_whole (Entry r) k = Some (Entry r)
equal_whole (Image a) k = Some (Image a)
equal_whole (Index16 j mark) k = Some (Index16 j mark)
equal_whole (EntryPtr t) k = Some (EntryPtr t)
equal_whole (EntryTyped t g) k = Some (EntryTyped t g)
equal_whole (TagOf t via) k = Some (TagOf t via)
equal_whole (TableFn t g) k = Some (TableFn t g)
equal_whole (JumpOff a j) k = Some (JumpOff a j)
equal_whole (JumpDest a j) k = Some (JumpDest a j)

-- what is left of a value where the low bits of this width are k: at 32 bits the same as where they are below k + 1
abbrev pub equal : Value → Width → ℕ → List ℕ → Option Value
equal v W8 k bounds = Some v
equal v W16 k bounds = Some v
equal v W32 k bounds = below v W32 (k + 1) bounds
equal v W64 k bounds = equal_whole v k
