-- Values of the bits that two numbers share (SDM volume 2, "AND").
use Rattle.std.specs.Prelude.{ℕ, ◌+◌, min, bit_and, Option, Some, None, List}
use Rattle.vw_insn.specs.declared.registers.Width.{Width}
use Rattle.vw_insn.specs.declared.registers.Width.TheVariants.{W8, W16, W32, W64}
use Rattle.vw_values.specs.declared.value.Value.{Value}
use Rattle.vw_values.specs.declared.value.Value.TheVariants.{Num, Const}
use Rattle.vw_values.specs.declared.extent.Extent.{Extent}
use Rattle.vw_values.specs.declared.extent.Extent.TheVariants.{Exactly, Under, Unbounded, Other}
use Rattle.vw_values.specs.Bounds.{first_from}
use Rattle.vw_values.specs.Sums.{extent_of, below_or_num}
use Rattle.vw_values.specs.Narrowing.{narrow32}

-- a bound of an operand, where it has one
abbrev pub bound_of : List ℕ → Extent → Option ℕ
bound_of bounds (Exactly c) = first_from (c + 1) bounds
bound_of bounds (Under k) = Some k
bound_of bounds Unbounded = None
bound_of bounds (Other v) = None

abbrev pub lesser : Option ℕ → Option ℕ → Option ℕ
lesser None bound = bound
lesser (Some j) None = Some j
lesser (Some j) (Some k) = Some (min j k)

abbrev pub and_extents : List ℕ → Extent → Extent → Value
and_extents bounds (Exactly c) (Exactly d) = Const (bit_and c d)
and_extents bounds p q = below_or_num (lesser (bound_of bounds p) (bound_of bounds q))

-- the bits that the low bits of this width share
abbrev pub and : Value → Value → Width → List ℕ → Value
and x y W8 bounds = Num
and x y W16 bounds = Num
and x y W32 bounds = and_extents bounds (extent_of (narrow32 x)) (extent_of (narrow32 y))
and x y W64 bounds = and_extents bounds (extent_of x) (extent_of y)
