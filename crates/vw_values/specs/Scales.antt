-- Multiples of values: scaled indices (SDM volume 1, 3.7.5) and shifts left by four bits (SDM volume 2,
-- "SAL/SAR/SHL/SHR").
use Rattle.std.specs.Prelude.{ℕ, ◌+◌, ◌-◌, ◌*◌, ◌%◌, ◌^◌, ◌==◌, nat_le, nat_lt, if◌then◌else◌, Option, Some, None, List}
use Rattle.vw_values.specs.declared.value.Value.{Value}
use Rattle.vw_values.specs.declared.value.Value.TheVariants.{Any, Num, Const, Index16}
use Rattle.vw_values.specs.declared.extent.Extent.{Extent}
use Rattle.vw_values.specs.declared.extent.Extent.TheVariants.{Exactly, Under}
use Rattle.vw_values.specs.Bounds.{first_from}
use Rattle.vw_values.specs.Sums.{extent_of, rounded_bound}

abbrev pub scale_extent : ℕ → Extent → Value
scale_extent s (Exactly c) = Const (s * c % 2 ^ 64)
scale_extent s (Under k) = rounded_bound (s * (k - 1) + 1)
scale_extent s _ = Num

-- a value times s, modulo 2 ^ 64
abbrev pub scale : Value → ℕ → Value
scale v s = if s == 1 then v else scale_extent s (extent_of v)

-- a bound that is not there makes the value any number
abbrev pub index_or_num : Option ℕ → Value
index_or_num None = Num
index_or_num (Some k) = Index16 k None

abbrev pub shl4_extent : List ℕ → Extent → Value
shl4_extent bounds (Exactly c) = if nat_lt c 65536 then index_or_num (first_from (c + 1) bounds) else Any
shl4_extent bounds (Under k) = if nat_le k 65536 then Index16 k None else Any
shl4_extent bounds _ = Any

-- a value times 16, modulo 2 ^ 64
abbrev pub shl4 : Value → List ℕ → Value
shl4 v bounds = shl4_extent bounds (extent_of v)
