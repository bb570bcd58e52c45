-- Which entry of a table of functions a memory operand lies in, by what is known of its registers. An operand is a base,
-- an index at scale 1 and a displacement (SDM volume 1, 3.7.5).
use Rattle.std.specs.Prelude.{ℕ, ℤ, pos, negsuc, List, Option, Some, None}
use Rattle.vw_values.specs.declared.value.Value.{Value}
use Rattle.vw_values.specs.declared.value.Value.TheVariants as value
use Rattle.vw_values.specs.Sums.{add}
use Rattle.vw_calls.specs.declared.entries.EntryRef.{EntryRef}

-- the place d bytes from the start of an entry of table t, with the tag where one is known; none below it
abbrev pub in_entry : ℕ → Option ℕ → ℤ → Option EntryRef
in_entry t tag (pos d) = Some (record { table = t; tag = tag; disp = d })
in_entry t tag (negsuc d) = None

-- the place d bytes from a pointer of which this is known
abbrev pub entry_at : Value → ℤ → Option EntryRef
entry_at (value.EntryPtr t) d = in_entry t None d
entry_at (value.EntryTyped t g) d = in_entry t (Some g) d
entry_at value.Any d = None
entry_at value.Num d = None
entry_at (value.Const c) d = None
entry_at (value.Below k) d = None
entry_at (value.Low k) d = None
entry_at (value.Both k) d = None
entry_at value.HeapBase d = None
entry_at value.HeapAddr d = None
entry_at value.Globals d = None
entry_at (value.Entry r) d = None
entry_at (value.Image a) d = None
entry_at (value.Index16 k mark) d = None
entry_at (value.TagOf t via) d = None
entry_at (value.TableFn t g) d = None
entry_at (value.JumpOff a k) d = None
entry_at (value.JumpDest a k) d = None

-- What is known of the base, or of the sum of base and index. A sum is an entry exactly where the one is the address of
-- a table and the other the distance of one of its entries.
abbrev pub pointer_of : Value → Option Value → List (ℕ × ℕ) → Value
pointer_of base None tables = base
pointer_of base (Some index) tables = add base index tables

-- the place in an entry of a table that an operand names; none where no entry is told
abbrev pub entry_of : Value → Option Value → ℤ → List (ℕ × ℕ) → Option EntryRef
entry_of base index d tables = entry_at (pointer_of base index tables) d
