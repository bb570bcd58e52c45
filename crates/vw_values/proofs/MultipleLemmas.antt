-- Multiples of numbers: what the results are, and that they rise and stand.
use Rattle.std.proofs.Common.{◌≡◌, ℕ, ◌+◌, ◌-◌, ◌*◌, ◌%◌, ◌^◌, ◌<◌, ◌≤◌, Bool, true, false, Option, Some, None, List, refl, sym, ap, subst, arith, nat_le, nat_lt, if◌then◌else◌}
use Rattle.std.specs.Prelude.{◌==◌}
use Rattle.std.proofs.lemmas.Bool.Decides.{nat_tests}
use Rattle.std.proofs.Math.Nat.{mul-le-mul_left}
use Rattle.vw_values.specs.Bounds.{IsMember, IsBounds, first_from}
use Rattle.vw_values.specs.declared.value.Value.TheVariants.{Any, Num, Const, Index16}
use Rattle.vw_values.specs.declared.extent.Extent.{Extent}
use Rattle.vw_values.specs.declared.extent.Extent.TheVariants.{Exactly, Under, Unbounded, Other}
use Rattle.vw_values.specs.Values.{IsValid, value_below}
use Rattle.vw_values.specs.Sums.{extent_of}
use Rattle.vw_values.specs.Scales.{scale_extent, index_or_num, shl4_extent}
use Rattle.vw_values.specs.Stands.{Instance, Stands}
use Rattle.vw_values.specs.Laws.{ScalesAreValid, ScalesRise, ScalesStand, ShiftsAreValid, ShiftsRise, ShiftsStand}
use Rattle.vw_values.proofs.UpLemmas.{first-is-up}
use Rattle.vw_values.proofs.SoundSums.{by-test, ExtentStands, extent-stands, rounded-stands}
use Rattle.vw_values.proofs.RisingSums.{by-test2, pow-rises, const-rises, rounded-num, extent_below, extents-below}
use Rattle.vw_values.proofs.ValidSums.{rounded-listed}
use Rattle.vw_values.proofs.MaskLemmas.{bound_below, IsListed, extent-listed, up-most}

-- ---- scaled indices

scaled-top : (s : ℕ) (p : Extent) → value_below (scale_extent s p) Num
scaled-top s (Exactly c) = tt
scaled-top s (Under k) = rounded-num (s * (k - 1) + 1)
scaled-top s Unbounded = tt
scaled-top s (Other v) = tt

times-less : (s c k : ℕ) → c < k → s * c < s * (k - 1) + 1
times-less s c k h = let most : c ≤ k - 1 = omega arith in let times = mul-le-mul_left s most in omega arith

scaled-rises : (s : ℕ) (q p : Extent) → extent_below p q → value_below (scale_extent s p) (scale_extent s q)
scaled-rises s (Exactly d) (Exactly c) f = ap (λ x. Const (s * x % 2 ^ 64)) f
scaled-rises s (Exactly d) _ f = absurd f
scaled-rises s (Under k) (Exactly c) f = const-rises (s * c) (s * (k - 1) + 1) (times-less s c k f)
scaled-rises s (Under k) (Under j) f =
    let most : j - 1 ≤ k - 1 = omega arith in
    let times = mul-le-mul_left s most in
    pow-rises (s * (j - 1) + 1) (s * (k - 1) + 1) (omega arith)
scaled-rises s (Under k) _ f = absurd f
scaled-rises s Unbounded p f = scaled-top s p
scaled-rises s (Other v) p f = scaled-top s p

pub scales-rise : ScalesRise
scales-rise x y s hx hy f = go (s == 1)
  where
    go : (test : Bool) → value_below (if test then x else scale_extent s (extent_of x)) (if test then y else scale_extent s (extent_of y))
    go true = f
    go false = scaled-rises s (extent_of y) (extent_of x) (extents-below x y hx hy f)

-- ---- shifts

index-most : (o : Option ℕ) (k : ℕ) → bound_below o (Some k) → value_below (index_or_num o) (Index16 k None)
index-most (Some j) k f = (f, tt)
index-most None k f = absurd f

shifted-rises : (b : List ℕ) (q p : Extent) → IsBounds b → IsListed b q → extent_below p q → value_below (shl4_extent b p) (shl4_extent b q)
shifted-rises b (Exactly d) (Exactly c) bounds h f = subst (λ x. value_below (shl4_extent b (Exactly x)) (shl4_extent b (Exactly d))) (sym f) same
  where
    index-same : (o : Option ℕ) → value_below (index_or_num o) (index_or_num o)
    index-same None = tt
    index-same (Some k) = (omega arith, tt)

    same : value_below (shl4_extent b (Exactly d)) (shl4_extent b (Exactly d))
    same = by-test (λ v. value_below v v) (nat_lt d 65536) (index_or_num (first_from (d + 1) b)) Any (λ _. index-same (first_from (d + 1) b)) (λ _. tt)
shifted-rises b (Exactly d) _ bounds h f = absurd f
shifted-rises b (Under k) (Exactly c) bounds h f = by-test2 value_below (nat_lt c 65536) (nat_le k 65536) (index_or_num (first_from (c + 1) b)) (Index16 k None) (λ _ _. index-most (first_from (c + 1) b) k (up-most b c k bounds f h)) (λ _ _. tt) (λ no yes. absurd (grind (arith, nat_tests))) tt
shifted-rises b (Under k) (Under j) bounds h f = by-test2 value_below (nat_le j 65536) (nat_le k 65536) (Index16 j None) (Index16 k None) (λ _ _. (f, tt)) (λ _ _. tt) (λ no yes. absurd (grind (arith, nat_tests))) tt
shifted-rises b (Under k) _ bounds h f = absurd f
shifted-rises b Unbounded p bounds h f = tt
shifted-rises b (Other v) p bounds h f = tt

pub shifts-rise : ShiftsRise
shifts-rise b x y bounds hx hy f = shifted-rises b (extent_of y) (extent_of x) bounds (extent-listed b y bounds hy) (extents-below x y hx hy.0 f)

-- ---- what stands for the results

scaled-stands : (i : Instance) (registers : ℕ → ℕ) (s : ℕ) (p : Extent) (m : ℕ) → ExtentStands i registers p m → Stands i registers (scale_extent s p) (s * m % 2 ^ 64)
scaled-stands i registers s (Exactly c) m h = ap (λ x. s * x % 2 ^ 64) h
scaled-stands i registers s (Under k) m h = rounded-stands i registers (s * (k - 1) + 1) (s * m) (times-less s m k h)
scaled-stands i registers s _ m h = tt

pub scales-stand : ScalesStand
scales-stand i registers x s m word h = go (s == 1) refl
  where
    go : (test : Bool) → (s == 1) ≡ test → Stands i registers (if test then x else scale_extent s (extent_of x)) (s * m % 2 ^ 64)
    go true e =
        let one : s ≡ 1 = grind (arith, nat_tests) in
        let same : s * m % 2 ^ 64 ≡ m = rw one (omega arith) in
        rw same h
    go false e = scaled-stands i registers s (extent_of x) m (extent-stands i registers x m h)

index-stands : (i : Instance) (registers : ℕ → ℕ) (k m : ℕ) → k ≤ 65536 → m < k → Stands i registers (Index16 k None) (16 * m % 2 ^ 64)
index-stands i registers k m few less = (m, less, omega arith, tt)

shifted-stands : (i : Instance) (registers : ℕ → ℕ) (b : List ℕ) (p : Extent) (m : ℕ) → IsBounds b → ExtentStands i registers p m → Stands i registers (shl4_extent b p) (16 * m % 2 ^ 64)
shifted-stands i registers b (Exactly c) m bounds h =
    by-test (λ v. Stands i registers v (16 * m % 2 ^ 64)) (nat_lt c 65536) (index_or_num (first_from (c + 1) b)) Any (λ less. go (first_from (c + 1) b) refl (grind (arith, nat_tests))) (λ _. tt)
  where
    go : (o : Option ℕ) → first_from (c + 1) b ≡ o → c < 65536 → Stands i registers (index_or_num o) (16 * m % 2 ^ 64)
    go None e less = tt
    go (Some k) e less =
        let up = first-is-up (c + 1) k b bounds.ascending e in
        let most = up.least 65536 (bounds.powers 16 (omega arith)) (omega arith) in
        index-stands i registers k m most (omega (arith, up.above))
shifted-stands i registers b (Under k) m bounds h = by-test (λ v. Stands i registers v (16 * m % 2 ^ 64)) (nat_le k 65536) (Index16 k None) Any (λ most. index-stands i registers k m (grind (arith, nat_tests)) h) (λ _. tt)
shifted-stands i registers b _ m bounds h = tt

pub shifts-stand : ShiftsStand
shifts-stand i registers b x m bounds h = shifted-stands i registers b (extent_of x) m bounds (extent-stands i registers x m h)

-- ---- valid results

scale-valid : (b : List ℕ) (s : ℕ) (p : Extent) → IsBounds b → IsValid b (scale_extent s p)
scale-valid b s (Exactly c) bounds = (omega arith, tt)
scale-valid b s (Under k) bounds = rounded-listed b (s * (k - 1) + 1) bounds
scale-valid b s Unbounded bounds = (tt, tt)
scale-valid b s (Other v) bounds = (tt, tt)

pub scales-valid : ScalesAreValid
scales-valid b x s bounds hx = go (s == 1)
  where
    go : (test : Bool) → IsValid b (if test then x else scale_extent s (extent_of x))
    go true = hx
    go false = scale-valid b s (extent_of x) bounds

index-valid : (b : List ℕ) (k : ℕ) → IsBounds b → k ≤ 65536 → IsMember b k → IsValid b (Index16 k None)
index-valid b k bounds few h = (((bounds.positive k h, few), tt), h)

shift-valid : (b : List ℕ) (p : Extent) → IsBounds b → IsListed b p → IsValid b (shl4_extent b p)
shift-valid b (Exactly c) bounds h =
    by-test (IsValid b) (nat_lt c 65536) (index_or_num (first_from (c + 1) b)) Any (λ less. go (first_from (c + 1) b) refl (grind (arith, nat_tests))) (λ _. (tt, tt))
  where
    go : (o : Option ℕ) → first_from (c + 1) b ≡ o → c < 65536 → IsValid b (index_or_num o)
    go None e less = (tt, tt)
    go (Some k) e less =
        let up = first-is-up (c + 1) k b bounds.ascending e in
        let most = up.least 65536 (bounds.powers 16 (omega arith)) (omega arith) in
        index-valid b k bounds most up.member
shift-valid b (Under k) bounds h = by-test (IsValid b) (nat_le k 65536) (Index16 k None) Any (λ most. index-valid b k bounds (grind (arith, nat_tests)) h) (λ _. (tt, tt))
shift-valid b Unbounded bounds h = (tt, tt)
shift-valid b (Other v) bounds h = (tt, tt)

pub shifts-valid : ShiftsAreValid
shifts-valid b x bounds hx = shift-valid b (extent_of x) bounds (extent-listed b x bounds hx)
