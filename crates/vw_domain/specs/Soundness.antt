-- What the equations need of an instance: where its parts lie, and what its memory holds.
use Rattle.std.specs.Prelude.{◌≡◌, ℕ, ◌+◌, ◌-◌, ◌*◌, ◌/◌, ◌%◌, ◌^◌, ◌<◌, ◌≤◌, ◌⊎◌, ℤ, ◌≤ℤ◌, Bool, true, false, ◌&&◌, ◌||◌, nat_le, nat_lt, if◌then◌else◌, ◌==◌, Option, Some, None, slice_get, length}
use Rattle.vw_bits.specs.Fields.{load}
use Rattle.vw_insn.specs.declared.registers.Width.TheVariants.{W32, W64}
use Rattle.vw_insn.specs.Words.{word_of, low}
use Rattle.vw_insn.specs.Arithmetic.{extended}
use Rattle.vw_insn.specs.Effect.{address}
use Rattle.vw_stmt.specs.declared.statement.Stmt.{Stmt}
use Rattle.vw_stmt.specs.declared.statement.Stmt.TheVariants as stmt
use Rattle.vw_stmt.specs.Environment.{Environment}
use Rattle.vw_values.specs.Stands.{Instance, FunctionTable, TableEntry, AtEntry, HasTag, IsFunction, IsReadAt, offset_at, table_list, EndsBelowTop}
use Rattle.vw_domain.specs.Sites.{Site, Plain, Based, AreReadable}
use Rattle.vw_domain.specs.Addresses.{Address, Frame, Heap, Globals, Image, Range, Entry, Unknown}
use Rattle.vw_domain.specs.Stands.{Machine}

-- an instance lies in the addresses of 47 bits, its parts apart; `next` is the address of the next instruction
pub record IsPlaced (m : Machine) (site : Site) (next : ℕ) : Type 0 where
  pub room : 8192 ≤ m.stack_start
  pub ends : m.stack_end ≤ 2 ^ 47
  pub heap_ends : m.instance.heap + 2 ^ 33 ≤ 2 ^ 47
  pub heap_room : 8 ≤ m.instance.heap
  pub globals_end : m.instance.globals + 4096 ≤ 2 ^ 47
  pub heap_apart : (m.instance.heap + 2 ^ 33 ≤ m.stack_start) ⊎ (m.stack_end ≤ m.instance.heap)
  pub globals_apart : (m.instance.globals + 4096 ≤ m.stack_start) ⊎ (m.stack_end ≤ m.instance.globals)
  pub next_is : next ≡ m.instance.load + site.next
  pub tables : table_list m.instance ≡ site.tables

-- ---- addresses

abbrev pub IsTagOf : Option ℕ → ℕ → Type 0
IsTagOf None g = Unit {0}
IsTagOf (Some h) g = g ≡ h

-- x is one of the addresses that an abstract address stands for
abbrev pub AddressStands : Instance → ℕ → (ℕ → ℕ) → Address → ℕ → Type 0
AddressStands s rsp registers (Frame c) x = x ≡ (rsp + word_of c) % 2 ^ 64
AddressStands s rsp registers (Heap l h) x = (z : ℤ) × (l ≤ℤ z) × (z ≤ℤ h) × (x ≡ (s.heap + word_of z) % 2 ^ 64)
AddressStands s rsp registers (Globals l h) x = (z : ℤ) × (l ≤ℤ z) × (z ≤ℤ h) × (x ≡ (s.globals + word_of z) % 2 ^ 64)
AddressStands s rsp registers (Image a) x = x ≡ (s.load + a) % 2 ^ 64
AddressStands s rsp registers (Range a k n) x = (i : ℕ) × (i < n) × (x ≡ (s.load + a + k * i) % 2 ^ 64)
AddressStands s rsp registers (Entry t tag d via) x =
    (g : ℕ) × (y : ℕ) × AtEntry s t (HasTag g) y × (x ≡ (y + d) % 2 ^ 64) × IsTagOf tag g × IsReadAt s registers t via y
AddressStands s rsp registers Unknown x = Unit {0}

-- ---- memory

-- What loads give: the stack's bytes, and the image's words, which no store changes.
pub record IsMemory (m : Machine) (site : Site) (loads : (ℕ → ℕ) → ℕ → ℕ → ℕ) : Type 0 where
  pub in_stack : (bytes : ℕ → ℕ) (a n : ℕ) → m.stack_start ≤ a → a + n ≤ m.stack_end → loads bytes a n ≡ load bytes a n
  pub globals : (bytes : ℕ → ℕ) → loads bytes (m.instance.heap - 8) 8 ≡ m.instance.globals
  pub plain : (bytes : ℕ → ℕ) (a n x : ℕ) → site.word_at a n ≡ Plain x → loads bytes ((m.instance.load + a) % 2 ^ 64) n ≡ x
  pub based : (bytes : ℕ → ℕ) (a b : ℕ) → site.word_at a 8 ≡ Based b → loads bytes ((m.instance.load + a) % 2 ^ 64) 8 ≡ (m.instance.load + b) % 2 ^ 64
  pub jump : (bytes : ℕ → ℕ) (a i : ℕ) → AreReadable site (a + 4 * i) 4
      → extended true W32 W64 (low W32 (loads bytes ((m.instance.load + a + 4 * i) % 2 ^ 64) 4)) ≡ offset_at m.instance (a + 4 * i)
  pub tag : (bytes : ℕ → ℕ) (t y g : ℕ) → AtEntry m.instance t (HasTag g) y → loads bytes y 8 ≡ g
  pub pointer : (bytes : ℕ → ℕ) (t y g : ℕ) → AtEntry m.instance t (HasTag g) y → AtEntry m.instance t (IsFunction g (loads bytes ((y + 8) % 2 ^ 64) 8)) y

-- Tables lie in the address space. A tag is below 2 ^ 32 - 1, or that of an empty entry.
pub record HasTables (s : Instance) : Type 0 where
  pub ends : (t : ℕ) → EndsBelowTop s t
  pub tags : (t : ℕ) (table : FunctionTable) → slice_get s.tables t ≡ Some table → (i : ℕ) (entry : TableEntry) → slice_get table.entries i ≡ Some entry
      → (entry.tag < 2 ^ 32 - 1) ⊎ (entry.tag ≡ 2 ^ 64 - 1)

-- readable bytes, those of tables too, lie in the address space
pub record HasImage (s : Instance) (site : Site) : Type 0 where
  pub ends : (b : ℕ) → site.is_readable b ≡ true → s.load + b < 2 ^ 47
  pub small : (b : ℕ) → site.is_readable b ≡ true → b < 2 ^ 47
  pub tables : (t : ℕ) (table : FunctionTable) → slice_get s.tables t ≡ Some table → (i j : ℕ) → i < length table.entries → j < 16
      → site.is_readable (table.address + 16 * i + j) ≡ true

-- ---- writes

abbrev pub in_stack : Machine → ℕ → Bool
in_stack m q = nat_le m.stack_start q && nat_lt q m.stack_end

abbrev pub in_span : ℕ → ℕ → ℕ → Bool
in_span a n q = nat_le a q && nat_lt q (a + n)

-- the low n bytes of v at a, as far as they lie in the stack
abbrev pub store : Machine → (ℕ → ℕ) → ℕ → ℕ → ℕ → ℕ → ℕ
store m bytes a n v = λ q. if in_stack m q && in_span a n q then v / 256 ^ (q - a) % 256 else bytes q

-- the own frame's bytes that were written, after a write of n bytes at a
abbrev pub marked : Machine → (ℕ → Bool) → ℕ → ℕ → ℕ → Bool
marked m written a n q = (in_stack m q && (in_span a n q && nat_lt q m.entry_rsp)) || written q

-- the activation after n bytes at a were written
abbrev pub after_write : Machine → ℕ → ℕ → Machine
after_write m a n = record m { is_written = marked m m.is_written a n }

-- the first of the bytes at a is in the 8,192 bytes below the stack
abbrev pub TouchesGuard : Machine → ℕ → Type 0
TouchesGuard m a = (m.stack_start ≤ a + 8192) × (a < m.stack_start)

-- the activation after a statement
abbrev pub activation_after : ℕ → Environment → Machine → Stmt → Machine
activation_after next e m (stmt.Store mem size src) = after_write m (address next e.registers mem) size
activation_after next e m (stmt.Touch mem size true) = after_write m (address next e.registers mem) size
activation_after next e m (stmt.Touch mem size false) = m
activation_after next e m (stmt.Set dst c) = m
activation_after next e m (stmt.Copy dst src) = m
activation_after next e m (stmt.Narrow dst src from to signed) = m
activation_after next e m (stmt.Sum dst a b minus) = m
activation_after next e m (stmt.Lea dst mem) = m
activation_after next e m (stmt.And dst w a b) = m
activation_after next e m (stmt.Shl dst) = m
activation_after next e m (stmt.Open dst w) = m
activation_after next e m (stmt.Choose dst w a b) = m
activation_after next e m (stmt.Load dst size to signed mem) = m
activation_after next e m (stmt.Flags fact) = m
activation_after next e m (stmt.Flow f) = m

-- the statement writes in the guard, so that the machine traps
abbrev pub HitsGuard : Machine → ℕ → Environment → Stmt → Type 0
HitsGuard m next e (stmt.Store mem size src) = TouchesGuard m (address next e.registers mem)
HitsGuard m next e (stmt.Touch mem size true) = TouchesGuard m (address next e.registers mem)
HitsGuard m next e (stmt.Touch mem size false) = ⊥
HitsGuard m next e (stmt.Set dst c) = ⊥
HitsGuard m next e (stmt.Copy dst src) = ⊥
HitsGuard m next e (stmt.Narrow dst src from to signed) = ⊥
HitsGuard m next e (stmt.Sum dst a b minus) = ⊥
HitsGuard m next e (stmt.Lea dst mem) = ⊥
HitsGuard m next e (stmt.And dst w a b) = ⊥
HitsGuard m next e (stmt.Shl dst) = ⊥
HitsGuard m next e (stmt.Open dst w) = ⊥
HitsGuard m next e (stmt.Choose dst w a b) = ⊥
HitsGuard m next e (stmt.Load dst size to signed mem) = ⊥
HitsGuard m next e (stmt.Flags fact) = ⊥
HitsGuard m next e (stmt.Flow f) = ⊥

-- registers by their numbers, and tmp as number 16
abbrev pub held_of : Environment → ℕ → ℕ
held_of e q = if q == 16 then e.tmp else e.registers q

-- the machine with the registers, the flags and the bytes of an environment
abbrev pub machine_in : Machine → Environment → Machine
machine_in m e = record m { registers = held_of e; flags = e.flags; byte = e.bytes }

-- ---- what an instance permits

-- n bytes from a lie between these addresses
abbrev pub IsWithinRange : ℕ → ℕ → ℕ → ℕ → Type 0
IsWithinRange a n from to = (from ≤ a) × (a + n ≤ to)

-- a function may read these n bytes
pub data ReadPermitted (m : Machine) (site : Site) (a n : ℕ) : Type 0 where
  -- in the heap's reservation
  of_heap : IsWithinRange a n m.instance.heap (m.instance.heap + 2 ^ 33) → ReadPermitted m site a n
  -- the word below the heap
  of_instance : a ≡ m.instance.heap - 8 → n ≡ 8 → ReadPermitted m site a n
  of_globals : IsWithinRange a n m.instance.globals (m.instance.globals + 4096) → ReadPermitted m site a n
  of_image : (b : ℕ) → a ≡ m.instance.load + b → AreReadable site b n → ReadPermitted m site a n
  -- what the activation wrote
  of_written : ((q : ℕ) → a ≤ q → q < a + n → m.is_written q ≡ true) → ReadPermitted m site a n
  -- above the return address
  of_arguments : IsWithinRange a n (m.entry_rsp + 8) (m.entry_rsp + 4104) → ReadPermitted m site a n

-- and write these
pub data WritePermitted (m : Machine) (a n : ℕ) : Type 0 where
  in_heap : IsWithinRange a n m.instance.heap (m.instance.heap + 2 ^ 33) → WritePermitted m a n
  in_globals : IsWithinRange a n m.instance.globals (m.instance.globals + 4096) → WritePermitted m a n
  -- in the own frame, or in the 8,192 bytes below the stack, where a write traps
  in_frame : IsWithinRange a n (m.stack_start - 8192) m.entry_rsp → WritePermitted m a n
