-- Values as families with bounds: the order of each family is the product of the orders of its bounds.
use Rattle.std.specs.Prelude.{◌≡◌, ℕ, ◌+◌, ◌-◌, ◌/◌, ◌%◌, ◌^◌, ◌≤◌, ◌⊎◌, min, nat_le, nat_lt, if◌then◌else◌, Option, Some, None}
use Rattle.vw_values.specs.declared.value.Value.{Value}
use Rattle.vw_values.specs.declared.value.Value.TheVariants.{Any, Num, Const, Below, Low, Both, HeapBase, HeapAddr, Globals, Entry, Image, Index16, EntryPtr, EntryTyped, TagOf, TableFn, JumpOff, JumpDest}
use Rattle.vw_values.specs.declared.shape.Family.{Family}
use Rattle.vw_values.specs.declared.shape.Family.TheVariants as fam
use Rattle.vw_values.specs.declared.shape.Shape.{Shape}
use Rattle.vw_values.specs.Values.{mark_below}

abbrev pub symbol_shape : Family → ℕ → Option (ℕ × ℕ) → Shape
symbol_shape family low mark = record { family = family; high = 0; low = low; mark = mark }

abbrev pub number_shape : ℕ → ℕ → Shape
number_shape high low = record { family = fam.Number; high = high; low = low; mark = None }

abbrev pub shape_of : Value → Shape
shape_of Any = symbol_shape fam.Any 1 None
shape_of Num = number_shape (2 ^ 32 - 1) (2 ^ 32)
shape_of (Const c) = record { family = fam.Number; high = c / 2 ^ 32; low = c % 2 ^ 32 + 1; mark = Some (0, c) }
shape_of (Below k) = number_shape ((k - 1) / 2 ^ 32) (min k (2 ^ 32))
shape_of (Low k) = number_shape (2 ^ 32 - 1) k
shape_of (Both k) = number_shape 1 k
shape_of HeapBase = symbol_shape fam.Heap 1 None
shape_of HeapAddr = symbol_shape fam.Heap (2 ^ 32) None
shape_of Globals = symbol_shape fam.Globals 1 None
shape_of (Entry r) = symbol_shape (fam.Entry r) 1 None
shape_of (Image a) = symbol_shape (fam.Image a) 1 None
shape_of (Index16 k mark) = symbol_shape fam.Index k mark
shape_of (EntryPtr t) = symbol_shape (fam.Pointer t) 1 None
shape_of (EntryTyped t g) = symbol_shape (fam.Pointer t) 1 (Some (t, g))
shape_of (TagOf t via) = symbol_shape (fam.TagOf t via) 1 None
shape_of (TableFn t g) = symbol_shape (fam.TableFn t g) 1 None
shape_of (JumpOff a k) = symbol_shape (fam.JumpOff a) k None
shape_of (JumpDest a k) = symbol_shape (fam.JumpDest a) k None

-- a number with these bounds and no other
abbrev pub number_of : ℕ → ℕ → Value
number_of high low =
    if nat_le high 0 then Below low
    else (if nat_le high 1 then (if nat_lt low (2 ^ 32) then Both low else Below (2 ^ 33))
    else (if nat_lt low (2 ^ 32) then Low low else Num))

abbrev pub exact_or : Option (ℕ × ℕ) → Value → Value
exact_or None v = v
exact_or (Some mark) v = Const mark.1

abbrev pub typed_or : ℕ → Option (ℕ × ℕ) → Value
typed_or t None = EntryPtr t
typed_or t (Some mark) = EntryTyped t mark.1

abbrev pub value_of_count : ℕ → Value → Value
value_of_count k v = if nat_le k 65536 then v else Any

-- the value of a shape: the least one above it
abbrev pub value_in : Family → ℕ → ℕ → Option (ℕ × ℕ) → Value
value_in fam.Any high low mark = Any
value_in fam.Number high low mark = exact_or mark (number_of high low)
value_in fam.Heap high low mark = if nat_le low 1 then HeapBase else HeapAddr
value_in fam.Globals high low mark = Globals
value_in (fam.Entry r) high low mark = Entry r
value_in (fam.Image a) high low mark = Image a
value_in fam.Index high low mark = value_of_count low (Index16 low mark)
value_in (fam.Pointer t) high low mark = typed_or t mark
value_in (fam.TagOf t via) high low mark = TagOf t via
value_in (fam.TableFn t g) high low mark = TableFn t g
value_in (fam.JumpOff a) high low mark = value_of_count low (JumpOff a low)
value_in (fam.JumpDest a) high low mark = value_of_count low (JumpDest a low)

abbrev pub value_of : Shape → Value
value_of s = value_in s.family s.high s.low s.mark

-- the second shape is above the first
abbrev pub IsUnder : Shape → Shape → Type 0
IsUnder s t = (t.family ≡ fam.Any) ⊎ ((s.family ≡ t.family) × (s.high ≤ t.high) × (s.low ≤ t.low) × mark_below s.mark t.mark)
