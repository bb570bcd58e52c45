-- A register stands in its word as it is.
use Rattle.std.specs.Prelude.{◌≡◌, refl, None, Some}
use Rattle.vw_stack.specs.declared.offset.Offset.{Offset}
use Rattle.vw_stack.specs.declared.offset.Offset.TheVariants as offset
use Rattle.vw_values.specs.declared.value.Via.TheVariants.{At, Idx}
use Rattle.vw_values.specs.declared.value.Value.{Value}
use Rattle.vw_values.specs.declared.value.Value.TheVariants.{Any, Num, Const, Below, Low, Both, HeapBase, HeapAddr, Globals, Entry, Image, Index16, EntryPtr, EntryTyped, TagOf, TableFn, JumpOff, JumpDest}
use Rattle.vw_domain.specs.declared.registers.Register.{Register}
use Rattle.vw_domain.specs.Cells.{register_word, value_word, with_offset, register_of_word}

parts_stand : (o : Offset) (v : Value) → register_of_word (with_offset o (value_word v)) ≡ record { offset = o; value = v }
parts_stand offset.Unknown Any = refl
parts_stand offset.Unknown Num = refl
parts_stand offset.Unknown (Const c) = refl
parts_stand offset.Unknown (Below k) = refl
parts_stand offset.Unknown (Low k) = refl
parts_stand offset.Unknown (Both k) = refl
parts_stand offset.Unknown HeapBase = refl
parts_stand offset.Unknown HeapAddr = refl
parts_stand offset.Unknown Globals = refl
parts_stand offset.Unknown (Entry r) = refl
parts_stand offset.Unknown (Image a) = refl
parts_stand offset.Unknown (Index16 k None) = refl
parts_stand offset.Unknown (Index16 k (Some mark)) = refl
parts_stand offset.Unknown (EntryPtr t) = refl
parts_stand offset.Unknown (EntryTyped t g) = refl
parts_stand offset.Unknown (TagOf t (At r)) = refl
parts_stand offset.Unknown (TagOf t (Idx r)) = refl
parts_stand offset.Unknown (TableFn t g) = refl
parts_stand offset.Unknown (JumpOff a k) = refl
parts_stand offset.Unknown (JumpDest a k) = refl
parts_stand (offset.Known z) Any = refl
parts_stand (offset.Known z) Num = refl
parts_stand (offset.Known z) (Const c) = refl
parts_stand (offset.Known z) (Below k) = refl
parts_stand (offset.Known z) (Low k) = refl
parts_stand (offset.Known z) (Both k) = refl
parts_stand (offset.Known z) HeapBase = refl
parts_stand (offset.Known z) HeapAddr = refl
parts_stand (offset.Known z) Globals = refl
parts_stand (offset.Known z) (Entry r) = refl
parts_stand (offset.Known z) (Image a) = refl
parts_stand (offset.Known z) (Index16 k None) = refl
parts_stand (offset.Known z) (Index16 k (Some mark)) = refl
parts_stand (offset.Known z) (EntryPtr t) = refl
parts_stand (offset.Known z) (EntryTyped t g) = refl
parts_stand (offset.Known z) (TagOf t (At r)) = refl
parts_stand (offset.Known z) (TagOf t (Idx r)) = refl
parts_stand (offset.Known z) (TableFn t g) = refl
parts_stand (offset.Known z) (JumpOff a k) = refl
parts_stand (offset.Known z) (JumpDest a k) = refl

pub register_stands : (r : Register) → register_of_word (register_word r) ≡ r
register_stands r = parts_stand r.offset r.value
