-- What is kept by a comparison's refinement of values.
use Rattle.std.proofs.Common.{◌≡◌, ℕ, ◌+◌, ◌^◌, List, refl, subst, arith, Some, None, inl, Bool, true, false, nat_lt}
use Rattle.std.proofs.lemmas.Bool.{ltb-true}
use Rattle.std.specs.Prelude.{Option, ◌==◌, if◌then◌else◌, min}
use Rattle.vw_insn.specs.declared.registers.Width.{Width}
use Rattle.vw_insn.specs.declared.registers.Width.TheVariants.{W8, W16, W32, W64}
use Rattle.vw_insn.specs.Listed.{IsWide}
use Rattle.vw_values.specs.declared.value.Value.{Value}
use Rattle.vw_values.specs.declared.value.Value.TheVariants.{Any, Num, Const, Below, Low}
use Rattle.vw_values.specs.Bounds.{IsBounds, first_from}
use Rattle.vw_values.specs.Values.{IsValue, IsValid, IsNumber, value_below}
use Rattle.vw_values.specs.Refinements.{below, cut, const_where}
use Rattle.vw_values.specs.Laws.{IsValidWhere, IsLower, BelowRises, EqualRises}
use Rattle.vw_values.specs.OrderLaws as laws
use Rattle.vw_domain.specs.declared.refines.Comparison.{Comparison}
use Rattle.vw_domain.specs.declared.refines.Comparison.TheVariants as comparison
use Rattle.vw_domain.specs.State.{IsNarrow}
use Rattle.vw_domain.specs.Changes.{or_else, refined_by}
use Rattle.vw_domain.specs.FormLaws.{HoldsBounds}
use Rattle.vw_domain.specs.Refines.{refinement, IsComparison}
use Rattle.vw_domain.proofs.MoreBounds.{refined_below_in, refined_equal_in}
use Rattle.vw_domain.proofs.StateJoins.{narrow_to, narrow_from}

pub record Refining (bounds : List ℕ) (f : Value → Option Value) : Type 0 where
  pub any : f Any ≡ Some Any
  pub valid : (v u : Value) → IsValid bounds v → f v ≡ Some u → IsValid bounds u
  pub numbers : (v u : Value) → IsValid bounds v → IsNumber v → f v ≡ Some u → IsNumber u
  pub narrow : (v u : Value) → IsValid bounds v → IsNarrow v → f v ≡ Some u → IsNarrow u

lower_some : (x y : Option Value) (u : Value) → x ≡ Some u → IsLower x y → (w : Value) × (y ≡ Some w) × value_below u w
lower_some None y u found lower = absurd (cc)
lower_some (Some v) None u found lower = absurd lower
lower_some (Some v) (Some w) u found lower =
    let same : v ≡ u = cc in
    (w, refl, subst (λ (x : Value). value_below x w) same lower)

valid_some : (b : List ℕ) (x : Option Value) (u : Value) → x ≡ Some u → IsValidWhere b x → IsValid b u
valid_some b None u found valid = absurd (cc)
valid_some b (Some v) u found valid =
    let same : v ≡ u = cc in
    subst (λ (x : Value). IsValid b x) same valid

pub some_same : (v w : Value) → Some v ≡ Some w → v ≡ w
some_same v w same = cc

-- what is left of numbers, and of those of four bytes, is one
cut_num : (w : Width) (o : Option ℕ) → IsWide w → value_below (cut w o Num) Num
cut_num W8 o wide = absurd wide
cut_num W16 o wide = absurd wide
cut_num W32 None wide = tt
cut_num W32 (Some u) wide = go (nat_lt u (2 ^ 32))
  where
    go : (t : Bool) → value_below (if t then Low u else Num) Num
    go true = tt
    go false = tt
cut_num W64 None wide = tt
cut_num W64 (Some u) wide = tt

cut_four : (w : Width) (o : Option ℕ) → IsWide w → value_below (cut w o (Below (2 ^ 32))) (Below (2 ^ 32))
cut_four W8 o wide = absurd wide
cut_four W16 o wide = absurd wide
cut_four W32 None wide = omega arith
cut_four W32 (Some u) wide = go (nat_lt u (2 ^ 32))
  where
    go : (t : Bool) → value_below (if t then Below (min (2 ^ 32) u) else Below (2 ^ 32)) (Below (2 ^ 32))
    go true = omega arith
    go false = omega arith
cut_four W64 None wide = omega arith
cut_four W64 (Some u) wide = omega arith

chosen : (t : Bool) (v u : Value) → (if t then None else Some v) ≡ Some u → v ≡ u
chosen true v u found = absurd (cc)
chosen false v u found = cc

below_num : (w : Width) (k : ℕ) (b : List ℕ) (u : Value) → IsWide w → below Num w k b ≡ Some u → value_below u Num
below_num w k b u wide found =
    subst (λ (x : Value). value_below x Num) (chosen (k == 0) (cut w (first_from k b) Num) u found) (cut_num w (first_from k b) wide)

below_four : (w : Width) (k : ℕ) (b : List ℕ) (u : Value) → IsWide w → below (Below (2 ^ 32)) w k b ≡ Some u → value_below u (Below (2 ^ 32))
below_four w k b u wide found =
    subst (λ (x : Value). value_below x (Below (2 ^ 32))) (chosen (k == 0) (cut w (first_from k b) (Below (2 ^ 32))) u found) (cut_four w (first_from k b) wide)

const_less : (k : ℕ) (t : Bool) (u : Value) → nat_lt k (2 ^ 32) ≡ t → const_where t k ≡ Some u → value_below u (Below (2 ^ 32))
const_less k true u test found = subst (λ (x : Value). value_below x (Below (2 ^ 32))) (some_same (Const k) u found) (ltb-true k (2 ^ 32) test)
const_less k false u test found = absurd (cc)

top_num : (c : Comparison) (b : List ℕ) (u : Value) → IsComparison c → refinement c b Num ≡ Some u → value_below u Num
top_num (comparison.Below w k) b u is found = below_num w k b u is found
top_num (comparison.Equal W8 k) b u is found = absurd is.0
top_num (comparison.Equal W16 k) b u is found = absurd is.0
top_num (comparison.Equal W32 k) b u is found = below_num W32 (k + 1) b u is.0 found
top_num (comparison.Equal W64 k) b u is found = subst (λ (x : Value). value_below x Num) (some_same (Const k) u found) tt

top_four : (c : Comparison) (b : List ℕ) (u : Value) → IsComparison c → refinement c b (Below (2 ^ 32)) ≡ Some u → value_below u (Below (2 ^ 32))
top_four (comparison.Below w k) b u is found = below_four w k b u is found
top_four (comparison.Equal W8 k) b u is found = absurd is.0
top_four (comparison.Equal W16 k) b u is found = absurd is.0
top_four (comparison.Equal W32 k) b u is found = below_four W32 (k + 1) b u is.0 found
top_four (comparison.Equal W64 k) b u is found = const_less k (nat_lt k (2 ^ 32)) u refl found

refine_any : (c : Comparison) (b : List ℕ) → refinement c b Any ≡ Some Any
refine_any (comparison.Below w k) b = refl
refine_any (comparison.Equal W8 k) b = refl
refine_any (comparison.Equal W16 k) b = refl
refine_any (comparison.Equal W32 k) b = refl
refine_any (comparison.Equal W64 k) b = refl

-- Values whose bounds are among these, and those of the site are too.
module _ (below_rises : BelowRises) (equal_rises : EqualRises) (b : List ℕ) (are : IsBounds b) (members : List ℕ) (holds : HoldsBounds members b) where
  refine_valid : (c : Comparison) (v : Value) → IsComparison c → IsValid members v → IsValidWhere members (refinement c b v)
  refine_valid (comparison.Below w k) v is valid = refined_below_in b members are holds v w k valid
  refine_valid (comparison.Equal w k) v is valid = refined_equal_in b members are holds v w k is.0 is.1 valid

  refine_rises : (c : Comparison) (v y : Value) → IsComparison c → IsValue v → IsValue y → value_below v y → IsLower (refinement c b v) (refinement c b y)
  refine_rises (comparison.Below w k) v y is of_v of_y under = below_rises b v y w k are is of_v of_y under
  refine_rises (comparison.Equal w k) v y is of_v of_y under = equal_rises b v y w k are is.0 is.1 of_v of_y under

  -- what is below the top stays below it
  under_top : (c : Comparison) (top v u : Value) → IsComparison c → IsValid members top → ((w : Value) → refinement c b top ≡ Some w → value_below w top) → IsValid members v → value_below v top → refinement c b v ≡ Some u → value_below u top
  under_top c top v u is valid_top top_stays valid under found =
      let lower = lower_some (refinement c b v) (refinement c b top) u found (refine_rises c v top is valid.0 valid_top.0 under) in
      laws.transitive members u lower.0 top (valid_some members (refinement c b v) u found (refine_valid c v is valid)) (valid_some members (refinement c b top) lower.0 lower.1 (refine_valid c top is valid_top)) valid_top lower.2 (top_stays lower.0 lower.1)

  pub refining : (c : Comparison) → IsComparison c → Refining members (refinement c b)
  refining c is = record {
    any = refine_any c b;
    valid = λ v u valid found. valid_some members (refinement c b v) u found (refine_valid c v is valid);
    numbers = λ v u valid number found. under_top c Num v u is (tt, tt) (λ w. top_num c b w is) valid number found;
    narrow = λ v u valid narrow found.
        narrow_from u (under_top c (Below (2 ^ 32)) v u is ((omega arith, inl (omega arith)), holds.are.powers 32 (omega arith)) (λ w. top_four c b w is) valid (narrow_to v narrow) found);
  }

-- ---- a refined value

pub refined_keeps : (P : Value → Type 0) (compared : Bool) (f : Value → Option Value) (v : Value) → P v → ((u : Value) → f v ≡ Some u → P u) → P (refined_by compared f v)
refined_keeps P false f v stays new = stays
refined_keeps P true f v stays new = go (f v) refl
  where
    go : (x : Option Value) → f v ≡ x → P (or_else x v)
    go None found = stays
    go (Some u) found = new u found
