-- When a state of the analysis stands for a state of the machine.
use Rattle.std.specs.Prelude.{◌≡◌, ℕ, suc, ◌+◌, ◌-◌, ◌%◌, ◌^◌, ◌<◌, ◌≤◌, ℤ, pos, negsuc, Bool, true, false, not, if◌then◌else◌, ◌==◌, Option, Some, None}
use Rattle.vw_bits.specs.Fields.{load}
use Rattle.vw_insn.specs.declared.registers.Width.TheVariants.{W32, W64}
use Rattle.vw_insn.specs.declared.registers.Width.{Width}
use Rattle.vw_insn.specs.Words.{Flags as StatusFlags, word_of, low}
use Rattle.vw_insn.specs.Arithmetic.{flags_of_difference}
use Rattle.vw_names.specs.declared.spot.Spot.{Spot}
use Rattle.vw_names.specs.declared.spot.Spot.TheVariants.{Reg, Flags, Slot}
use Rattle.vw_stack.specs.declared.offset.Offset.{Offset}
use Rattle.vw_stack.specs.declared.offset.Offset.TheVariants as offset
use Rattle.vw_values.specs.declared.value.Value.{Value}
use Rattle.vw_values.specs.declared.value.Value.TheVariants.{Any, Num, Const, Below, Low, Both, HeapBase, HeapAddr, Globals, Entry, Image, Index16, EntryPtr, EntryTyped, TagOf, TableFn, JumpOff, JumpDest}
use Rattle.vw_values.specs.declared.value.Via.{Via}
use Rattle.vw_values.specs.declared.value.Via.TheVariants.{At, Idx}
use Rattle.vw_values.specs.Stands.{Instance, Stands}
use Rattle.vw_domain.specs.declared.parts.Fact.{Fact}
use Rattle.vw_domain.specs.declared.parts.Fact.TheVariants as fact
use Rattle.vw_domain.specs.declared.parts.Parts.{Parts}
use Rattle.vw_domain.specs.State.{IsState, state_below}
use Rattle.vw_domain.specs.Abstract.{Abstract, abstract_of, IsBelow}

-- a state of the machine, in an activation of a function
pub record Machine : Type 0 where
  -- the instance, with the registers at the activation's entry
  pub instance : Instance
  -- the first address of the stack, and the first one behind it
  pub stack_start : ℕ
  pub stack_end : ℕ
  -- what rsp held at the activation's entry
  pub entry_rsp : ℕ
  -- whether the activation wrote the byte at an address of its frame
  pub is_written : ℕ → Bool
  -- by their numbers; 16 holds a number within one instruction
  pub registers : ℕ → ℕ
  pub flags : StatusFlags
  -- the byte at each address
  pub byte : ℕ → ℕ

-- the address at a distance from what rsp held at the entry
abbrev pub at_offset : ℕ → ℤ → ℕ
at_offset rsp (pos n) = rsp + n
at_offset rsp (negsuc n) = rsp - suc n

-- a register with a known distance holds that address
abbrev pub OffsetStands : ℕ → Offset → ℕ → Type 0
OffsetStands rsp offset.Unknown x = Unit {0}
OffsetStands rsp (offset.Known c) x = x ≡ (rsp + word_of c) % 2 ^ 64

-- the number in a place, where slots have these sizes, and `compared` stands in the flags' place
abbrev pub content : ℕ → (ℤ → ℕ) → (ℕ → ℕ) → (ℕ → ℕ) → ℕ → Spot → ℕ
content rsp sizes registers byte compared (Reg r) = registers r
content rsp sizes registers byte compared Flags = compared
content rsp sizes registers byte compared (Slot o) = load byte (at_offset rsp o) (sizes o)

abbrev pub width_of : ℕ → Width
width_of w = if w == 32 then W32 else W64

-- the flags are those of a comparison of x with the fact's number (SDM volume 2, "CMP")
abbrev pub FactStands : Fact → ℕ → StatusFlags → Type 0
FactStands fact.Unknown x flags = Unit {0}
FactStands (fact.Compare w k) x flags = flags ≡ flags_of_difference (width_of w) (low (width_of w) x) k

-- the value is the address of an entry of a table
abbrev pub is_entry : Value → Bool
is_entry (EntryPtr t) = true
is_entry (EntryTyped t g) = true
is_entry Any = false
is_entry Num = false
is_entry (Const c) = false
is_entry (Below k) = false
is_entry (Low k) = false
is_entry (Both k) = false
is_entry HeapBase = false
is_entry HeapAddr = false
is_entry Globals = false
is_entry (Entry r) = false
is_entry (Image a) = false
is_entry (Index16 k m) = false
is_entry (TagOf t via) = false
is_entry (TableFn t g) = false
is_entry (JumpOff a k) = false
is_entry (JumpDest a k) = false

-- the value is an index of entries, as their distance
abbrev pub is_index : Value → Bool
is_index (Index16 k m) = true
is_index Any = false
is_index Num = false
is_index (Const c) = false
is_index (Below k) = false
is_index (Low k) = false
is_index (Both k) = false
is_index HeapBase = false
is_index HeapAddr = false
is_index Globals = false
is_index (Entry r) = false
is_index (Image a) = false
is_index (EntryPtr t) = false
is_index (EntryTyped t g) = false
is_index (TagOf t via) = false
is_index (TableFn t g) = false
is_index (JumpOff a k) = false
is_index (JumpDest a k) = false

-- the tag of an entry that was read by a register: at the address that it holds, or else at its distance from the table
pub record Tag : Type 0 where
  pub at : Bool
  pub table : ℕ
  pub register : ℕ

abbrev pub tag_by : ℕ → Via → Tag
tag_by t (At r) = record { at = true; table = t; register = r }
tag_by t (Idx r) = record { at = false; table = t; register = r }

abbrev pub tag_register : Value → Option Tag
tag_register (TagOf t via) = Some (tag_by t via)
tag_register Any = None
tag_register Num = None
tag_register (Const c) = None
tag_register (Below k) = None
tag_register (Low k) = None
tag_register (Both k) = None
tag_register HeapBase = None
tag_register HeapAddr = None
tag_register Globals = None
tag_register (Entry r) = None
tag_register (Image a) = None
tag_register (Index16 k m) = None
tag_register (EntryPtr t) = None
tag_register (EntryTyped t g) = None
tag_register (TableFn t g) = None
tag_register (JumpOff a k) = None
tag_register (JumpDest a k) = None

-- of which values there is none in the class of a register that told a tag, by its address or by its distance
abbrev pub clashes : Bool → Value → Bool
clashes true v = is_index v
clashes false v = is_entry v

-- in one class no entry's address meets an index, and a tag's register is in no class with a value of the other kind
pub record Apart (values : Spot → Value) (same : Spot → Spot → Bool) : Type 0 where
  pub apart : (at : Bool) (p q : Spot) → same p q ≡ true → clashes (not at) (values p) ≡ true → clashes at (values q) ≡ true → ⊥
  pub tags : (p q : Spot) (g : Tag) → tag_register (values p) ≡ Some g → same (Reg g.register) q ≡ true → clashes g.at (values q) ≡ true → ⊥

-- the state stands for the machine's, where the places in the class of the flags hold the number `compared`
pub record StandsWith (s : Abstract) (m : Machine) (compared : ℕ) : Type 0 where
  -- the frame's top is in the stack, and 4,104 bytes above it too
  pub start : m.stack_start ≤ m.entry_rsp
  pub end : m.entry_rsp + 4104 ≤ m.stack_end
  pub depth : m.stack_start + s.probed ≤ m.entry_rsp
  pub offsets : (r : ℕ) → OffsetStands m.entry_rsp (s.offsets r) (m.registers r)
  pub written : (c : ℤ) → s.written c ≡ true → m.is_written (at_offset m.entry_rsp c) ≡ true
  pub values : (p : Spot) → Stands m.instance m.registers (s.values p) (content m.entry_rsp s.sizes m.registers m.byte compared p)
  pub classes : (p q : Spot) → s.same p q ≡ true → content m.entry_rsp s.sizes m.registers m.byte compared p ≡ content m.entry_rsp s.sizes m.registers m.byte compared q
  pub word : compared < 2 ^ 64
  pub fact : FactStands s.fact compared m.flags
  pub kinds : Apart s.values s.same

-- the state stands for the machine's
abbrev pub StandsFor : Abstract → Machine → Type 0
StandsFor s m = (compared : ℕ) × StandsWith s m compared

-- the bytes that an activation wrote are those of its frame
abbrev pub WritesItsFrame : Machine → Type 0
WritesItsFrame m = (a : ℕ) → m.is_written a ≡ true → (m.stack_start ≤ a) × (a < m.entry_rsp)

-- a lower state stands for less
abbrev pub LowerStandsForLess : Type 0
LowerStandsForLess =
    (s t : Parts) (m : Machine) → IsState s → IsState t → state_below s t
    → StandsFor (abstract_of s) m → StandsFor (abstract_of t) m

-- the order of states is that of their abstract forms
abbrev pub LowerSaysMore : Type 0
LowerSaysMore = (s t : Parts) → IsState s → IsState t → state_below s t → IsBelow (abstract_of s) (abstract_of t)
