-- Sums and differences of values.
use Rattle.std.specs.Prelude.{ℕ, ◌+◌, ◌-◌, ◌%◌, ◌^◌, ◌==◌, nat_le, nat_lt, if◌then◌else◌, Option, Some, None, List, [], ◌∷◌}
use Rattle.vw_values.specs.declared.value.Value.{Value}
use Rattle.vw_values.specs.declared.value.Value.TheVariants.{Any, Num, Const, Below, Low, Both, HeapBase, HeapAddr, Globals, Entry, Image, Index16, EntryPtr, EntryTyped, TagOf, TableFn, JumpOff, JumpDest}
use Rattle.vw_values.specs.declared.extent.Extent.{Extent}
use Rattle.vw_values.specs.declared.extent.Extent.TheVariants.{Exactly, Under, Unbounded, Other}
use Rattle.vw_values.specs.Bounds.{pow}

-- what an operation on numbers sees of a value: Both k counts as Below 2 ^ 33
abbrev pub extent_of : Value → Extent
extent_of Any = Other Any
extent_of Num = Unbounded
extent_of (Const c) = Exactly c
extent_of (Below k) = Under k
extent_of (Low k) = Unbounded
extent_of (Both k) = Under (2 ^ 33)
extent_of HeapBase = Other HeapBase
extent_of HeapAddr = Other HeapAddr
extent_of Globals = Other Globals
extent_of (Entry r) = Other (Entry r)
extent_of (Image a) = Other (Image a)
extent_of (Index16 k mark) = Other (Index16 k mark)
extent_of (EntryPtr t) = Other (EntryPtr t)
extent_of (EntryTyped t g) = Other (EntryTyped t g)
extent_of (TagOf t via) = Other (TagOf t via)
extent_of (TableFn t g) = Other (TableFn t g)
extent_of (JumpOff a k) = Other (JumpOff a k)
extent_of (JumpDest a k) = Other (JumpDest a k)

abbrev pub below_or_num : Option ℕ → Value
below_or_num None = Num
below_or_num (Some k) = Below k

-- a number below n
abbrev pub rounded_bound : ℕ → Value
rounded_bound n = below_or_num (pow n)

-- the heap's base and a number
abbrev pub heap_plus : Extent → Value
heap_plus (Exactly c) = if nat_lt c (2 ^ 32) then HeapAddr else Any
heap_plus (Under k) = if nat_le k (2 ^ 32) then HeapAddr else Any
heap_plus _ = Any

-- the first table with this address: its number, counted from n, and its length
abbrev pub table_from : ℕ → ℕ → List (ℕ × ℕ) → Option (ℕ × ℕ)
table_from n a [] = None
table_from n a (t ∷ ts) = if t.0 == a then Some (n, t.1) else table_from (n + 1) a ts

-- the address of an entry of table t, with the tag of a mark that names t
abbrev pub entry_value : ℕ → Option (ℕ × ℕ) → Value
entry_value t None = EntryPtr t
entry_value t (Some mark) = if mark.0 == t then EntryTyped t mark.1 else EntryPtr t

abbrev pub entry_sum_in : Option (ℕ × ℕ) → ℕ → Option (ℕ × ℕ) → Value
entry_sum_in None k mark = Any
entry_sum_in (Some table) k mark = if nat_le k table.1 then entry_value table.0 mark else Any

-- an address in the image and the offset of one of the first k entries
abbrev pub entry_sum : List (ℕ × ℕ) → ℕ → ℕ → Option (ℕ × ℕ) → Value
entry_sum tables a k mark = entry_sum_in (table_from 0 a tables) k mark

-- an address in the image and an offset from a jump table at b
abbrev pub jump_sum : ℕ → ℕ → ℕ → Value
jump_sum a b k = if a == b then JumpDest a k else Any

-- an address in the image and what is added to it
abbrev pub image_plus : List (ℕ × ℕ) → ℕ → Extent → Value
image_plus tables a (Exactly c) = Image ((a + c) % 2 ^ 64)
image_plus tables a (Other (Index16 k mark)) = entry_sum tables a k mark
image_plus tables a (Other (JumpOff b k)) = jump_sum a b k
image_plus tables a _ = Any

abbrev pub index_plus : List (ℕ × ℕ) → ℕ → Option (ℕ × ℕ) → Extent → Value
index_plus tables k mark (Other (Image a)) = entry_sum tables a k mark
index_plus tables k mark _ = Any

abbrev pub jump_off_plus : ℕ → ℕ → Extent → Value
jump_off_plus b k (Other (Image a)) = jump_sum a b k
jump_off_plus b k _ = Any

-- Any or a symbol, and what is added to it
abbrev pub symbol_sum : List (ℕ × ℕ) → Value → Extent → Value
symbol_sum tables HeapBase q = heap_plus q
symbol_sum tables (Image a) q = image_plus tables a q
symbol_sum tables (Index16 k mark) q = index_plus tables k mark q
symbol_sum tables (JumpOff a k) q = jump_off_plus a k q
symbol_sum tables _ q = Any

abbrev pub add_extents : List (ℕ × ℕ) → Extent → Extent → Value
add_extents tables (Other v) q = symbol_sum tables v q
add_extents tables p (Other w) = symbol_sum tables w p
add_extents tables (Exactly c) (Exactly d) = Const ((c + d) % 2 ^ 64)
add_extents tables (Exactly c) (Under k) = rounded_bound (c + k)
add_extents tables (Under j) (Exactly d) = rounded_bound (d + j)
add_extents tables (Under j) (Under k) = rounded_bound (j + k - 1)
add_extents tables _ _ = Num

-- the sum of two values modulo 2 ^ 64; `tables` holds each table's address and number of entries
abbrev pub add : Value → Value → List (ℕ × ℕ) → Value
add x y tables = add_extents tables (extent_of x) (extent_of y)

-- ---- differences

abbrev pub num_or_any : Extent → Value
num_or_any (Other v) = Any
num_or_any _ = Num

abbrev pub subtract_extent : List (ℕ × ℕ) → Value → Extent → Value
subtract_extent tables x (Exactly d) = add x (Const ((2 ^ 64 - d) % 2 ^ 64)) tables
subtract_extent tables x (Other w) = Any
subtract_extent tables x _ = num_or_any (extent_of x)

-- x less y modulo 2 ^ 64
abbrev pub subtract : Value → Value → List (ℕ × ℕ) → Value
subtract x y tables = subtract_extent tables x (extent_of y)
