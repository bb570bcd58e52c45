-- What a call leaves of a state.
use Rattle.std.specs.Prelude.{ℕ, ◌+◌, ◌-◌, ◌^◌, ℤ, pos, negsuc, nat_le, max, if◌then◌else◌}
use Rattle.vw_stack.specs.declared.offset.Offset.{Offset}
use Rattle.vw_stack.specs.declared.offset.Offset.TheVariants as offset
use Rattle.vw_values.specs.declared.value.Value.{Value}
use Rattle.vw_values.specs.declared.value.Value.TheVariants.{Any, Num, Const, Below, Low, Both, HeapBase, HeapAddr, Globals, Entry, Image, Index16, EntryPtr, EntryTyped, TagOf, TableFn, JumpOff, JumpDest}
use Rattle.vw_domain.specs.Abstract.{Abstract}
use Rattle.vw_domain.specs.Changes.{call, is_kept, is_register}
use Rattle.vw_domain.specs.Addresses.{value_of}

-- after a call of a function
abbrev pub after_call : Abstract → Abstract
after_call st = call st is_kept (st.offsets 4)

-- how far n bytes below offset c reach below offset 0
abbrev pub reach : ℕ → ℤ → ℕ
reach n (pos c) = n - c
reach n (negsuc c) = n + (c + 1)

abbrev pub deeper_by : ℕ → Offset → ℕ → ℕ
deeper_by n offset.Unknown p = p
deeper_by n (offset.Known c) p = if nat_le n (2 ^ 31) then max p (reach n c) else p

-- the depth that is known once a probe of so many bytes came back
abbrev pub deeper : Value → Offset → ℕ → ℕ
deeper (Const n) c p = deeper_by n c p
deeper Any c p = p
deeper Num c p = p
deeper (Below k) c p = p
deeper (Low k) c p = p
deeper (Both k) c p = p
deeper HeapBase c p = p
deeper HeapAddr c p = p
deeper Globals c p = p
deeper (Entry r) c p = p
deeper (Image a) c p = p
deeper (Index16 k m) c p = p
deeper (EntryPtr t) c p = p
deeper (EntryTyped t g) c p = p
deeper (TagOf t via) c p = p
deeper (TableFn t g) c p = p
deeper (JumpOff a k) c p = p
deeper (JumpDest a k) c p = p

-- after a call of the probe of the stack, which is asked for as many bytes as rax tells and keeps all registers
abbrev pub after_probe : Abstract → Abstract
after_probe st = record (call st is_register (st.offsets 4)) { probed = deeper (value_of st 0) (st.offsets 4) st.probed }
