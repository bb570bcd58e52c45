-- Places in which the edge of a comparison changes nothing.
use Rattle.std.specs.Prelude.{ℕ, Bool, true, false, not, ◌&&◌, List}
use Rattle.vw_values.specs.declared.value.Value.{Value}
use Rattle.vw_values.specs.declared.value.Value.TheVariants.{Index16, EntryPtr, EntryTyped}
use Rattle.vw_domain.specs.Refines.{is_compared}

-- the value is the address of an entry, or 16 times an index, which may be marked
abbrev pub is_entry : Value → Bool
is_entry (Index16 j m) = true
is_entry (EntryPtr t) = true
is_entry (EntryTyped t g) = true
is_entry v = false

-- the place is not in the class of the flags, and its value is that of no entry
abbrev pub is_plain : List (ℕ × ℕ) → ℕ → Value → Bool
is_plain classes a v = not (is_entry v) && not (is_compared classes a)
