-- The checks of what a function does, on what a state knows before it does it. Each is a condition under which all that
-- the state stands for is permitted.
use Rattle.std.specs.Prelude.{◌≡◌, ℕ, ◌+◌, ◌*◌, ◌^◌, ◌<◌, ◌≤◌, ◌⊎◌, ◌==◌, ℤ, pos, negsuc, ◌+ℤ◌, ◌-ℤ◌, ◌≤ℤ◌, ◌<ℤ◌, Bool, true, false, ◌||◌, List, [], ◌∷◌}
use Rattle.vw_stmt.specs.declared.statement.Stmt.{Stmt}
use Rattle.vw_stmt.specs.declared.statement.Stmt.TheVariants as stmt
use Rattle.vw_stack.specs.declared.offset.Offset.{Offset}
use Rattle.vw_stack.specs.declared.offset.Offset.TheVariants as offset
use Rattle.vw_values.specs.declared.value.Value.{Value}
use Rattle.vw_values.specs.declared.value.Value.TheVariants as value
use Rattle.vw_domain.specs.Abstract.{Abstract}
use Rattle.vw_domain.specs.Sites.{Site, AreReadable}
use Rattle.vw_domain.specs.Addresses.{Address, Frame, Heap, Globals, Image, Range, Entry, Unknown, address_of, value_of}
use Rattle.vw_domain.specs.Statements.{apply}

-- ---- 3: writes of the frame begin in the probed part of the stack or in the guard of 8,192 bytes below it

abbrev pub BeginsInStack : Abstract → Address → Type 0
BeginsInStack st (Frame c) = pos 0 ≤ℤ (c +ℤ pos (8192 + st.probed))
BeginsInStack st (Heap l h) = Unit {0}
BeginsInStack st (Globals l h) = Unit {0}
BeginsInStack st (Image a) = Unit {0}
BeginsInStack st (Range a s k) = Unit {0}
BeginsInStack st (Entry t tag d via) = Unit {0}
BeginsInStack st Unknown = Unit {0}

-- ---- 4: accesses stay in the heap's reservation of 2 ^ 33 bytes, the globals' 4,096 bytes, readable bytes and entries

-- the eight bytes below the heap, which hold the globals' address
abbrev pub IsInstanceWord : ℤ → ℤ → ℕ → Type 0
IsInstanceWord l h n = (n ≡ 8) × (l ≡ negsuc 7) × (h ≡ negsuc 7)

-- n bytes from each distance between these lie in the first m
abbrev pub IsInside : ℤ → ℤ → ℕ → ℕ → Type 0
IsInside l h n m = (pos 0 ≤ℤ l) × ((h +ℤ pos n) ≤ℤ pos m)

abbrev pub ReadsInside : Site → Address → ℕ → Type 0
ReadsInside site (Frame c) n = Unit {0}
ReadsInside site (Heap l h) n = IsInside l h n (2 ^ 33) ⊎ IsInstanceWord l h n
ReadsInside site (Globals l h) n = IsInside l h n 4096
ReadsInside site (Image a) n = AreReadable site a n
ReadsInside site (Range a s k) n = (i : ℕ) → i < k → AreReadable site (a + s * i) n
ReadsInside site (Entry t tag d via) n = d + n ≤ 16
ReadsInside site Unknown n = ⊥

abbrev pub WritesInside : Address → ℕ → Type 0
WritesInside (Frame c) n = Unit {0}
WritesInside (Heap l h) n = IsInside l h n (2 ^ 33)
WritesInside (Globals l h) n = IsInside l h n 4096
WritesInside (Image a) n = Unit {0}
WritesInside (Range a s k) n = Unit {0}
WritesInside (Entry t tag d via) n = Unit {0}
WritesInside Unknown n = ⊥

-- ---- 5: writes end in the own frame, and the image is not written

abbrev pub WritesOwn : Address → ℕ → Type 0
WritesOwn (Frame c) n = (c +ℤ pos n) ≤ℤ pos 0
WritesOwn (Heap l h) n = Unit {0}
WritesOwn (Globals l h) n = Unit {0}
WritesOwn (Image a) n = ⊥
WritesOwn (Range a s k) n = ⊥
WritesOwn (Entry t tag d via) n = ⊥
WritesOwn Unknown n = Unit {0}

-- ---- 6: what is read of the frame was written, or lies between the return address and 4,104 bytes above

abbrev pub ReadsKnown : Abstract → Address → ℕ → Type 0
ReadsKnown st (Frame c) n = ((o : ℤ) → c ≤ℤ o → o <ℤ (c +ℤ pos n) → st.written o ≡ true) ⊎ ((pos 8 ≤ℤ c) × ((c +ℤ pos n) ≤ℤ pos 4104))
ReadsKnown st (Heap l h) n = Unit {0}
ReadsKnown st (Globals l h) n = Unit {0}
ReadsKnown st (Image a) n = Unit {0}
ReadsKnown st (Range a s k) n = Unit {0}
ReadsKnown st (Entry t tag d via) n = Unit {0}
ReadsKnown st Unknown n = Unit {0}

-- ---- reads and writes

-- n bytes may be read
abbrev pub MayRead : Site → Abstract → Address → ℕ → Type 0
MayRead site st a n = ReadsInside site a n × ReadsKnown st a n

-- n bytes may be written
abbrev pub MayWrite : Abstract → Address → ℕ → Type 0
MayWrite st a n = BeginsInStack st a × WritesInside a n × WritesOwn a n

-- no check fails at an access of this statement
abbrev pub Passes : Site → Abstract → Stmt → Type 0
Passes site st (stmt.Load dst size to signed mem) = MayRead site st (address_of site st mem) size
Passes site st (stmt.Store mem size src) = MayWrite st (address_of site st mem) size
Passes site st (stmt.Touch mem size true) = MayWrite st (address_of site st mem) size
Passes site st (stmt.Touch mem size false) = MayRead site st (address_of site st mem) size
Passes site st (stmt.Set dst c) = Unit {0}
Passes site st (stmt.Copy dst src) = Unit {0}
Passes site st (stmt.Narrow dst src from to signed) = Unit {0}
Passes site st (stmt.Sum dst a b minus) = Unit {0}
Passes site st (stmt.Lea dst mem) = Unit {0}
Passes site st (stmt.And dst w a b) = Unit {0}
Passes site st (stmt.Shl dst) = Unit {0}
Passes site st (stmt.Open dst w) = Unit {0}
Passes site st (stmt.Choose dst w a b) = Unit {0}
Passes site st (stmt.Flags fact) = Unit {0}
Passes site st (stmt.Flow f) = Unit {0}

-- nor at one of these statements, one after another
abbrev pub PassesAll : Site → Abstract → List Stmt → Type 0
PassesAll site st [] = Unit {0}
PassesAll site st (s ∷ stmts) = Passes site st s × PassesAll site (apply site s st) stmts

-- ---- 7: calls are made with the heap's base in rdi, of functions that are known

-- the push of a call: 3 asks that rsp is known
abbrev pub MayPushAt : Abstract → Offset → Type 0
MayPushAt st offset.Unknown = ⊥
MayPushAt st (offset.Known c) = MayWrite st (Frame (c -ℤ pos 8)) 8

abbrev pub MayPush : Abstract → Type 0
MayPush st = MayPushAt st (st.offsets 4)

abbrev pub HasHeapBase : Abstract → Type 0
HasHeapBase st = value_of st 7 ≡ value.HeapBase

-- the address is the function's of an entry with a known tag
abbrev pub IsTableFn : Value → Type 0
IsTableFn (value.TableFn t g) = Unit {0}
IsTableFn value.Any = ⊥
IsTableFn value.Num = ⊥
IsTableFn (value.Const c) = ⊥
IsTableFn (value.Below k) = ⊥
IsTableFn (value.Low k) = ⊥
IsTableFn (value.Both k) = ⊥
IsTableFn value.HeapBase = ⊥
IsTableFn value.HeapAddr = ⊥
IsTableFn value.Globals = ⊥
IsTableFn (value.Entry r) = ⊥
IsTableFn (value.Image a) = ⊥
IsTableFn (value.Index16 k m) = ⊥
IsTableFn (value.EntryPtr t) = ⊥
IsTableFn (value.EntryTyped t g) = ⊥
IsTableFn (value.TagOf t via) = ⊥
IsTableFn (value.JumpOff a k) = ⊥
IsTableFn (value.JumpDest a k) = ⊥

-- ---- 8: a return finds rsp where it was, and rbx, rbp and r12 to r15 as they were (psABI, 3.2.1)

abbrev pub is_saved : ℕ → Bool
is_saved r = (r == 3) || ((r == 5) || ((r == 12) || ((r == 13) || ((r == 14) || (r == 15)))))

pub record MayReturn (st : Abstract) : Type 0 where
  pub rsp : st.offsets 4 ≡ offset.Known (pos 0)
  pub saved : (r : ℕ) → is_saved r ≡ true → value_of st r ≡ value.Entry r
