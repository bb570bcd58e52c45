-- The join of two values: the least value above both that names a listed bound.
use Rattle.std.specs.Prelude.{ℕ, ◌==◌, ◌&&◌, max, Bool, true, false, if◌then◌else◌, List, Option, Some, None}
use Rattle.vw_values.specs.declared.value.Via.{Via}
use Rattle.vw_values.specs.declared.value.Via.TheVariants.{At, Idx}
use Rattle.vw_values.specs.declared.value.Value.{Value}
use Rattle.vw_values.specs.declared.value.Value.TheVariants.{Any}
use Rattle.vw_values.specs.declared.shape.Family.{Family}
use Rattle.vw_values.specs.declared.shape.Family.TheVariants as fam
use Rattle.vw_values.specs.declared.shape.Shape.{Shape}
use Rattle.vw_values.specs.Bounds.{first_from}
use Rattle.vw_values.specs.Shapes.{shape_of, value_in}

-- the mark that two shapes share, where they do
abbrev pub shared_mark : Option (ℕ × ℕ) → Option (ℕ × ℕ) → Option (ℕ × ℕ)
shared_mark None n = None
shared_mark (Some m) None = None
shared_mark (Some m) (Some n) = if m.0 == n.0 && m.1 == n.1 then Some m else None

abbrev pub same_via : Via → Via → Bool
same_via (At r) (At q) = r == q
same_via (At r) (Idx q) = false
same_via (Idx r) (At q) = false
same_via (Idx r) (Idx q) = r == q

-- whether two families are one: those that no line names together are apart
abbrev pub same_family : Family → Family → Bool
same_family fam.Any fam.Any = true
same_family fam.Number fam.Number = true
same_family fam.Heap fam.Heap = true
same_family fam.Globals fam.Globals = true
same_family (fam.Entry r) (fam.Entry q) = r == q
same_family (fam.Image a) (fam.Image b) = a == b
same_family fam.Index fam.Index = true
same_family (fam.Pointer t) (fam.Pointer u) = t == u
same_family (fam.TagOf t via) (fam.TagOf u other) = t == u && same_via via other
same_family (fam.TableFn t g) (fam.TableFn u h) = t == u && g == h
same_family (fam.JumpOff a) (fam.JumpOff b) = a == b
same_family (fam.JumpDest a) (fam.JumpDest b) = a == b
same_family _ _ = false

-- the value of a family with this bound of the low half, and Any where there is none
abbrev pub value_up_to : Option ℕ → Family → ℕ → Option (ℕ × ℕ) → Value
value_up_to None family high mark = Any
value_up_to (Some low) family high mark = value_in family high low mark

-- of one family: the greater high half, the least bound that is not below the greater low half, and the mark that both
-- have; of two families: Any
abbrev pub joined_shapes : List ℕ → Shape → Shape → Value
joined_shapes bounds s t =
    if same_family s.family t.family
    then value_up_to (first_from (max s.low t.low) bounds) s.family (max s.high t.high) (shared_mark s.mark t.mark)
    else Any

abbrev pub join : List ℕ → Value → Value → Value
join bounds x y = joined_shapes bounds (shape_of x) (shape_of y)
