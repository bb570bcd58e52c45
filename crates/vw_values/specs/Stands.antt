-- Which numbers a value stands for, in an instance of a module.
use Rattle.std.specs.Prelude.{◌≡◌, ℕ, ◌+◌, ◌*◌, ◌%◌, ◌^◌, ◌<◌, ◌≤◌, Option, Some, None, List, length, map, slice_get}
use Rattle.vw_bits.specs.Fields.{load}
use Rattle.vw_bits.specs.Words.{sign_extended}
use Rattle.vw_values.specs.declared.value.Via.{Via}
use Rattle.vw_values.specs.declared.value.Via.TheVariants.{At, Idx}
use Rattle.vw_values.specs.declared.value.Value.{Value}
use Rattle.vw_values.specs.declared.value.Value.TheVariants.{Any, Num, Const, Below, Low, Both, HeapBase, HeapAddr, Globals, Entry, Image, Index16, EntryPtr, EntryTyped, TagOf, TableFn, JumpOff, JumpDest}

-- an entry of a table of tagged functions; the tag of an empty one is 2 ^ 64 - 1
pub record TableEntry : Type 0 where
  pub tag : ℕ
  -- the address that it holds in the instance
  pub pointer : ℕ

pub record FunctionTable : Type 0 where
  -- where it lies, counted from the load address
  pub address : ℕ
  pub entries : List TableEntry

-- What values speak of: where an instance lies in memory, what its image holds, and the registers as they were when the
-- function at hand was entered.
pub record Instance : Type 0 where
  -- the address at which the image is loaded
  pub load : ℕ
  -- the heap's base
  pub heap : ℕ
  -- the address of the globals
  pub globals : ℕ
  pub tables : List FunctionTable
  -- the bytes of the image, by their addresses counted from the load address
  pub byte : ℕ → ℕ
  pub entered : ℕ → ℕ

-- the word of 32 bits at an address of the image, sign-extended
abbrev pub offset_at : Instance → ℕ → ℕ
offset_at s a = sign_extended (load s.byte a 4) 4

-- `a` is the address of an entry of table t, and something holds of that entry
pub record AtEntry (s : Instance) (t : ℕ) (Holds : TableEntry → Type 0) (a : ℕ) : Type 0 where
  pub table : FunctionTable
  pub is_table : slice_get s.tables t ≡ Some table
  pub i : ℕ
  pub entry : TableEntry
  pub is_entry : slice_get table.entries i ≡ Some entry
  pub at : a ≡ (s.load + table.address + 16 * i) % 2 ^ 64
  pub holds : Holds entry

-- entry i of the marked table is there and has the marked tag
pub record IsMarked (s : Instance) (mark : ℕ × ℕ) (i : ℕ) : Type 0 where
  pub table : FunctionTable
  pub is_table : slice_get s.tables mark.0 ≡ Some table
  pub entry : TableEntry
  pub is_entry : slice_get table.entries i ≡ Some entry
  pub tagged : entry.tag ≡ mark.1

abbrev pub HasMark : Instance → Option (ℕ × ℕ) → ℕ → Type 0
HasMark s None i = Unit {0}
HasMark s (Some mark) i = IsMarked s mark i

abbrev pub HasTag : ℕ → TableEntry → Type 0
HasTag g entry = entry.tag ≡ g

-- an entry with this tag that holds this address
abbrev pub IsFunction : ℕ → ℕ → TableEntry → Type 0
IsFunction g x entry = (entry.tag ≡ g) × (entry.pointer ≡ x)

-- `a` is the address at which a tag of table t was read
abbrev pub IsReadAt : Instance → (ℕ → ℕ) → ℕ → Via → ℕ → Type 0
IsReadAt s registers t (At r) a = a ≡ registers r
IsReadAt s registers t (Idx r) a =
    (table : FunctionTable) × (slice_get s.tables t ≡ Some table) × (a ≡ (s.load + table.address + registers r) % 2 ^ 64)

-- The number x, a word of 64 bits, is one that the value stands for while the registers hold these numbers. Only TagOf
-- speaks of them.
abbrev pub Stands : Instance → (ℕ → ℕ) → Value → ℕ → Type 0
Stands s registers Any x = Unit {0}
Stands s registers Num x = Unit {0}
Stands s registers (Const c) x = x ≡ c
Stands s registers (Below k) x = x < k
Stands s registers (Low k) x = x % 2 ^ 32 < k
Stands s registers (Both k) x = (x < 2 ^ 33) × (x % 2 ^ 32 < k)
Stands s registers HeapBase x = x ≡ s.heap
Stands s registers HeapAddr x = (v : ℕ) × (v < 2 ^ 32) × (x ≡ s.heap + v)
Stands s registers Globals x = x ≡ s.globals
Stands s registers (Entry r) x = x ≡ s.entered r
Stands s registers (Image a) x = x ≡ (s.load + a) % 2 ^ 64
Stands s registers (Index16 k mark) x = (i : ℕ) × (i < k) × (x ≡ 16 * i) × HasMark s mark i
Stands s registers (EntryPtr t) x = AtEntry s t (λ entry. Unit {0}) x
Stands s registers (EntryTyped t g) x = AtEntry s t (HasTag g) x
Stands s registers (TagOf t via) x = (a : ℕ) × IsReadAt s registers t via a × AtEntry s t (HasTag x) a
Stands s registers (TableFn t g) x = (a : ℕ) × AtEntry s t (IsFunction g x) a
Stands s registers (JumpOff a k) x = (i : ℕ) × (i < k) × (x ≡ offset_at s (a + 4 * i))
Stands s registers (JumpDest a k) x = (i : ℕ) × (i < k) × (x ≡ (s.load + a + offset_at s (a + 4 * i)) % 2 ^ 64)

-- each table's address and number of entries
abbrev pub table_list : Instance → List (ℕ × ℕ)
table_list s = map (λ table. (table.address, length table.entries)) s.tables

-- the heap's reservation of 2 ^ 33 bytes ends before addresses do
abbrev pub HasRoom : Instance → Type 0
HasRoom s = s.heap + 2 ^ 33 ≤ 2 ^ 64

-- table t, if there is one, ends 2 ^ 21 bytes before addresses do
abbrev pub EndsBelowTop : Instance → ℕ → Type 0
EndsBelowTop s t =
    (table : FunctionTable) → slice_get s.tables t ≡ Some table
    → s.load + table.address + 16 * length table.entries + 2 ^ 21 ≤ 2 ^ 64

-- the register of which a value speaks
abbrev pub register_of : Via → ℕ
register_of (At r) = r
register_of (Idx r) = r

-- a register that the value names holds the same number before and after a change of registers
abbrev pub AgreeFor : Value → (ℕ → ℕ) → (ℕ → ℕ) → Type 0
AgreeFor Any registers others = Unit {0}
AgreeFor Num registers others = Unit {0}
AgreeFor (Const c) registers others = Unit {0}
AgreeFor (Below k) registers others = Unit {0}
AgreeFor (Low k) registers others = Unit {0}
AgreeFor (Both k) registers others = Unit {0}
AgreeFor HeapBase registers others = Unit {0}
AgreeFor HeapAddr registers others = Unit {0}
AgreeFor Globals registers others = Unit {0}
AgreeFor (Entry r) registers others = Unit {0}
AgreeFor (Image a) registers others = Unit {0}
AgreeFor (Index16 k mark) registers others = Unit {0}
AgreeFor (EntryPtr t) registers others = Unit {0}
AgreeFor (EntryTyped t g) registers others = Unit {0}
AgreeFor (TagOf t via) registers others = registers (register_of via) ≡ others (register_of via)
AgreeFor (TableFn t g) registers others = Unit {0}
AgreeFor (JumpOff a k) registers others = Unit {0}
AgreeFor (JumpDest a k) registers others = Unit {0}
