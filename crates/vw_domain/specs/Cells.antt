-- How what is known of a register stands in the 32 bytes of a cell: which variant its value is, and side by side what
-- the variants hold. What a variant does not hold is zero.
use Rattle.std.specs.Prelude.{◌≡◌, ℕ, ℤ, pos, Bool, true, false, Some, None}
use Rattle.vw_stack.specs.declared.offset.Offset.{Offset}
use Rattle.vw_stack.specs.declared.offset.Offset.TheVariants.{Known, Unknown}
use Rattle.vw_values.specs.declared.value.Via.TheVariants.{At, Idx}
use Rattle.vw_values.specs.declared.value.Value.{Value}
use Rattle.vw_values.specs.declared.value.Value.TheVariants.{Any, Num, Const, Below, Low, Both, HeapBase, HeapAddr, Globals, Entry, Image, Index16, EntryPtr, EntryTyped, TagOf, TableFn, JumpOff, JumpDest}
use Rattle.vw_domain.specs.declared.cells.Kind.{Kind}
use Rattle.vw_domain.specs.declared.cells.Kind.TheVariants as kind
use Rattle.vw_domain.specs.declared.cells.Word.{Word}
use Rattle.vw_domain.specs.declared.registers.Register.{Register}

-- at no known distance
abbrev pub word : Kind → ℕ → ℕ → ℕ → ℕ → Word
word k first second table register = record { first = first; second = second; offset = pos 0; table = table; kind = k; register = register; is_known = false }

-- the word of a value at no known distance
abbrev pub value_word : Value → Word
value_word Any = word kind.Any 0 0 0 0
value_word Num = word kind.Num 0 0 0 0
value_word (Const c) = word kind.Const c 0 0 0
value_word (Below k) = word kind.Below k 0 0 0
value_word (Low k) = word kind.Low k 0 0 0
value_word (Both k) = word kind.Both k 0 0 0
value_word HeapBase = word kind.HeapBase 0 0 0 0
value_word HeapAddr = word kind.HeapAddr 0 0 0 0
value_word Globals = word kind.Globals 0 0 0 0
value_word (Entry r) = word kind.Entry 0 0 0 r
value_word (Image a) = word kind.Image a 0 0 0
value_word (Index16 k None) = word kind.Index16 k 0 0 0
value_word (Index16 k (Some mark)) = word kind.MarkedIndex16 k mark.1 mark.0 0
value_word (EntryPtr t) = word kind.EntryPtr 0 0 t 0
value_word (EntryTyped t g) = word kind.EntryTyped 0 g t 0
value_word (TagOf t (At r)) = word kind.TagAt 0 0 t r
value_word (TagOf t (Idx r)) = word kind.TagIdx 0 0 t r
value_word (TableFn t g) = word kind.TableFn 0 g t 0
value_word (JumpOff a k) = word kind.JumpOff a k 0 0
value_word (JumpDest a k) = word kind.JumpDest a k 0 0

-- the value of this variant
abbrev pub value_by : Kind → ℕ → ℕ → ℕ → ℕ → Value
value_by kind.Any first second table register = Any
value_by kind.Num first second table register = Num
value_by kind.Const first second table register = Const first
value_by kind.Below first second table register = Below first
value_by kind.Low first second table register = Low first
value_by kind.Both first second table register = Both first
value_by kind.HeapBase first second table register = HeapBase
value_by kind.HeapAddr first second table register = HeapAddr
value_by kind.Globals first second table register = Globals
value_by kind.Entry first second table register = Entry register
value_by kind.Image first second table register = Image first
value_by kind.Index16 first second table register = Index16 first None
value_by kind.MarkedIndex16 first second table register = Index16 first (Some (table, second))
value_by kind.EntryPtr first second table register = EntryPtr table
value_by kind.EntryTyped first second table register = EntryTyped table second
value_by kind.TagAt first second table register = TagOf table (At register)
value_by kind.TagIdx first second table register = TagOf table (Idx register)
value_by kind.TableFn first second table register = TableFn table second
value_by kind.JumpOff first second table register = JumpOff first second
value_by kind.JumpDest first second table register = JumpDest first second

abbrev pub value_of_word : Word → Value
value_of_word w = value_by w.kind w.first w.second w.table w.register

-- the value is a tag
abbrev pub is_tag : Kind → Bool
is_tag kind.TagAt = true
is_tag kind.TagIdx = true
is_tag k = false

-- what the value holds beside its variant is at most the register's number, and no bound
abbrev pub is_simple : Kind → Bool
is_simple kind.Any = true
is_simple kind.Num = true
is_simple kind.HeapBase = true
is_simple kind.HeapAddr = true
is_simple kind.Globals = true
is_simple kind.Entry = true
is_simple k = false

-- both have this one simple value at one distance
pub record AreOneSimple (a b : Word) : Type 0 where
  pub simple : is_simple a.kind ≡ true
  pub kind : a.kind ≡ b.kind
  pub register : a.register ≡ b.register
  pub known : a.is_known ≡ b.is_known
  pub offset : a.offset ≡ b.offset

abbrev pub offset_by : Bool → ℤ → Offset
offset_by true c = Known c
offset_by false c = Unknown

abbrev pub with_offset : Offset → Word → Word
with_offset Unknown w = w
with_offset (Known c) w = record w { offset = c; is_known = true }

-- the word of a register, and the register of a word
abbrev pub register_word : Register → Word
register_word r = with_offset r.offset (value_word r.value)

abbrev pub register_of_word : Word → Register
register_of_word w = record { offset = offset_by w.is_known w.offset; value = value_of_word w }
