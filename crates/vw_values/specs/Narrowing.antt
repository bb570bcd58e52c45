-- Values of which some low bits are kept and extended (SDM volume 2, "MOVSX/MOVSXD" and "MOVZX").
use Rattle.std.specs.Prelude.{ℕ, ◌%◌, ◌^◌, min, Bool, true, false}
use Rattle.vw_insn.specs.declared.registers.Width.{Width}
use Rattle.vw_insn.specs.declared.registers.Width.TheVariants.{W8, W16, W32, W64}
use Rattle.vw_values.specs.declared.value.Value.{Value}
use Rattle.vw_values.specs.declared.value.Value.TheVariants.{Any, Num, Const, Below, Low, Both, HeapBase, HeapAddr, Globals, Entry, Image, Index16, EntryPtr, EntryTyped, TagOf, TableFn, JumpOff, JumpDest}

-- the low 32 bits
abbrev pub narrow32 : Value → Value
narrow32 Any = Below (2 ^ 32)
narrow32 Num = Below (2 ^ 32)
narrow32 (Const c) = Const (c % 2 ^ 32)
narrow32 (Below k) = Below (min k (2 ^ 32))
narrow32 (Low k) = Below k
narrow32 (Both k) = Below k
narrow32 HeapBase = Below (2 ^ 32)
narrow32 HeapAddr = Below (2 ^ 32)
narrow32 Globals = Below (2 ^ 32)
narrow32 (Entry r) = Below (2 ^ 32)
narrow32 (Image a) = Below (2 ^ 32)
narrow32 (Index16 k mark) = Below (2 ^ 32)
narrow32 (EntryPtr t) = Below (2 ^ 32)
narrow32 (EntryTyped t g) = Below (2 ^ 32)
narrow32 (TagOf t via) = Below (2 ^ 32)
narrow32 (TableFn t g) = Below (2 ^ 32)
narrow32 (JumpOff a k) = Below (2 ^ 32)
narrow32 (JumpDest a k) = Below (2 ^ 32)

-- the low bits that are n many values, of which a Const alone says more than their number
abbrev pub const_or_below : ℕ → Value → Value
const_or_below n (Const c) = Const (c % n)
const_or_below n _ = Below n

-- the low bits of a width
abbrev pub low_bits : Width → Value → Value
low_bits W8 v = const_or_below (2 ^ 8) v
low_bits W16 v = const_or_below (2 ^ 16) v
low_bits W32 v = narrow32 v
low_bits W64 v = v

-- any number of a width; one of 8 or 16 bits leaves the other bits as they were, so it is any number of 64
abbrev pub any_number : Width → Value
any_number W8 = Num
any_number W16 = Num
any_number W32 = Below (2 ^ 32)
any_number W64 = Num

-- the low bits of width `from`, extended to width `to` by their sign where they are signed and by zeros where not
abbrev pub narrow : Value → Width → Width → Bool → Value
narrow v from to true = any_number to
narrow v from to false = low_bits from v
