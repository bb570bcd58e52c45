-- The laws of the orders of offsets and of depths.
use Rattle.std.specs.Prelude.{◌≡◌, ◌≤◌, refl}
use Rattle.std.proofs.Common.{ap, ◌∙◌, arith, rules}
use Rattle.vw_stack.specs.declared.offset.Offset.{Offset}
use Rattle.vw_stack.specs.declared.offset.Offset.TheVariants.{Known, Unknown}
use Rattle.vw_stack.specs.declared.depth.Depth.{Depth}
use Rattle.vw_stack.specs.Stack.{offset_below, offset_rank, depth_below, depth_rank}

pub offset_reflexive : (x : Offset) → offset_below x x
offset_reflexive Unknown = tt
offset_reflexive (Known n) = refl

pub offset_transitive : (x y z : Offset) → offset_below x y → offset_below y z → offset_below x z
offset_transitive x y Unknown f g = tt
offset_transitive x Unknown (Known n) f g = absurd g
offset_transitive Unknown (Known m) (Known n) f g = absurd f
offset_transitive (Known l) (Known m) (Known n) f g = f ∙ g

pub offset_antisymmetric : (x y : Offset) → offset_below x y → offset_below y x → x ≡ y
offset_antisymmetric Unknown Unknown f g = refl
offset_antisymmetric (Known m) Unknown f g = absurd g
offset_antisymmetric Unknown (Known n) f g = absurd f
offset_antisymmetric (Known m) (Known n) f g = ap Known f

pub offset_falls : (x y : Offset) → offset_below x y → offset_rank y ≤ offset_rank x
offset_falls x Unknown f = omega arith
offset_falls Unknown (Known n) f = absurd f
offset_falls (Known m) (Known n) f = omega arith

pub offset_strict : (x y : Offset) → offset_below x y → offset_rank x ≡ offset_rank y → x ≡ y
offset_strict Unknown Unknown f same = refl
offset_strict (Known m) Unknown f same = absurd (omega arith)
offset_strict Unknown (Known n) f same = absurd f
offset_strict (Known m) (Known n) f same = ap Known f

pub depth_reflexive : (x : Depth) → depth_below x x
depth_reflexive x = omega arith

pub depth_transitive : (x y z : Depth) → depth_below x y → depth_below y z → depth_below x z
depth_transitive x y z f g = omega arith

-- depths of equal bytes are equal
pub depth_same : (x y : Depth) → x.0 ≡ y.0 → x ≡ y
depth_same x y same = search rules

pub depth_antisymmetric : (x y : Depth) → depth_below x y → depth_below y x → x ≡ y
depth_antisymmetric x y f g = depth_same x y (omega arith)

pub depth_falls : (x y : Depth) → depth_below x y → depth_rank y ≤ depth_rank x
depth_falls x y f = f

pub depth_strict : (x y : Depth) → depth_below x y → depth_rank x ≡ depth_rank y → x ≡ y
depth_strict x y f same = depth_same x y same
