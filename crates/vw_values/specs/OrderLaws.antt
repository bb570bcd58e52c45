-- The laws of the order and of ranks, on valid values.
use Rattle.std.proofs.Common.{◌≡◌, ℕ, ◌≤◌, List}
use Rattle.vw_values.specs.declared.value.Value.{Value}
use Rattle.vw_values.specs.Values.{value_below, IsValid}
use Rattle.vw_values.specs.Rank.{value_rank}
use Rattle.vw_values.specs.ValueOrder.{value-reflexive, value-trans, value-antisym}
use Rattle.vw_values.specs.RankFalls as falls
use Rattle.vw_values.specs.RankStrict as strict

pub reflexive : (b : List ℕ) (x : Value) → IsValid b x → value_below x x
reflexive b x h = value-reflexive x h.0

pub transitive : (b : List ℕ) (x y z : Value) → IsValid b x → IsValid b y → IsValid b z → value_below x y → value_below y z → value_below x z
transitive b x y z hx hy hz f g = value-trans x y z hx.0 hy.0 hz.0 f g

pub antisymmetric : (b : List ℕ) (x y : Value) → IsValid b x → IsValid b y → value_below x y → value_below y x → x ≡ y
antisymmetric b x y hx hy f g = value-antisym x y hx.0 hy.0 f g

pub rank_falls : (b : List ℕ) (x y : Value) → IsValid b x → IsValid b y → value_below x y → value_rank b y ≤ value_rank b x
rank_falls b x y hx hy f = falls.rank-falls b x y hx.0 hy.0 f

pub rank_strict : (b : List ℕ) (x y : Value) → IsValid b x → IsValid b y → value_below x y → value_rank b x ≡ value_rank b y → x ≡ y
rank_strict b x y hx hy f same = strict.rank-strict b x y hx hy f same
