-- Differences rise and stand.
use Rattle.std.proofs.Common.{◌≡◌, ℕ, ◌+◌, ◌-◌, ◌%◌, ◌^◌, ◌<◌, ◌≤◌, List, length, refl, sym, subst, arith}
use Rattle.vw_values.specs.declared.value.Value.{Value}
use Rattle.vw_values.specs.declared.value.Value.TheVariants.{Const}
use Rattle.vw_values.specs.declared.extent.Extent.{Extent}
use Rattle.vw_values.specs.declared.extent.Extent.TheVariants.{Exactly, Under, Unbounded, Other}
use Rattle.vw_values.specs.Values.{IsValue, value_below}
use Rattle.vw_values.specs.Sums.{extent_of, add_extents, add, num_or_any, subtract_extent}
use Rattle.vw_values.specs.Stands.{Instance, Stands, HasRoom, table_list}
use Rattle.vw_values.specs.Laws.{DifferencesRise, DifferencesStand}
use Rattle.vw_values.proofs.SoundSums.{ExtentStands, extent-stands, sums-stand}
use Rattle.vw_values.proofs.RisingSums.{sums-rise, rounded-num, extent_below, extents-below}

-- the sum of a number and a Const is a number, and of another value Any or a symbol
add-most : (tables : List (ℕ × ℕ)) (p' p : Extent) (d : ℕ) → extent_below p p' → value_below (add_extents tables p (Exactly d)) (num_or_any p')
add-most tables (Other v) p d f = tt
add-most tables (Exactly e) (Exactly c) d f = tt
add-most tables (Under k) (Exactly c) d f = tt
add-most tables Unbounded (Exactly c) d f = tt
add-most tables (Under k) (Under j) d f = rounded-num (d + j)
add-most tables Unbounded (Under j) d f = rounded-num (d + j)
add-most tables Unbounded Unbounded d f = tt
add-most tables _ _ d f = absurd f

nums-rise : (p' p : Extent) → extent_below p p' → value_below (num_or_any p) (num_or_any p')
nums-rise (Other v) p f = tt
nums-rise (Exactly e) (Exactly c) f = tt
nums-rise (Under k) (Exactly c) f = tt
nums-rise Unbounded (Exactly c) f = tt
nums-rise (Under k) (Under j) f = tt
nums-rise Unbounded (Under j) f = tt
nums-rise Unbounded Unbounded f = tt
nums-rise _ _ f = absurd f

differences-rise-extents : (tables : List (ℕ × ℕ)) (x x' : Value) (q' q : Extent) → length tables ≤ 64 → IsValue x → IsValue x' → value_below x x' → extent_below q q' → value_below (subtract_extent tables x q) (subtract_extent tables x' q')
differences-rise-extents tables x x' (Other w) q few hx hx' f g = tt
differences-rise-extents tables x x' (Exactly e) (Exactly d) few hx hx' f g =
    let R : ℕ → Type 0 = λ n. value_below (add x (Const ((2 ^ 64 - n) % 2 ^ 64)) tables) (add x' (Const ((2 ^ 64 - e) % 2 ^ 64)) tables) in
    let c : (2 ^ 64 - e) % 2 ^ 64 < 2 ^ 64 = omega arith in
    subst R (sym g) (sums-rise tables x x' (Const ((2 ^ 64 - e) % 2 ^ 64)) (Const ((2 ^ 64 - e) % 2 ^ 64)) few hx hx' c c f refl)
differences-rise-extents tables x x' (Under k) (Exactly d) few hx hx' f g = add-most tables (extent_of x') (extent_of x) ((2 ^ 64 - d) % 2 ^ 64) (extents-below x x' hx hx' f)
differences-rise-extents tables x x' Unbounded (Exactly d) few hx hx' f g = add-most tables (extent_of x') (extent_of x) ((2 ^ 64 - d) % 2 ^ 64) (extents-below x x' hx hx' f)
differences-rise-extents tables x x' (Under k) (Under j) few hx hx' f g = nums-rise (extent_of x') (extent_of x) (extents-below x x' hx hx' f)
differences-rise-extents tables x x' Unbounded (Under j) few hx hx' f g = nums-rise (extent_of x') (extent_of x) (extents-below x x' hx hx' f)
differences-rise-extents tables x x' Unbounded Unbounded few hx hx' f g = nums-rise (extent_of x') (extent_of x) (extents-below x x' hx hx' f)
differences-rise-extents tables x x' _ _ few hx hx' f g = absurd g

pub differences-rise : DifferencesRise
differences-rise tables x x' y y' few hx hx' hy hy' f g = differences-rise-extents tables x x' (extent_of y') (extent_of y) few hx hx' f (extents-below y y' hy hy' g)

num-stands : (s : Instance) (registers : ℕ → ℕ) (p : Extent) (m : ℕ) → Stands s registers (num_or_any p) m
num-stands s registers (Other v) m = tt
num-stands s registers (Exactly c) m = tt
num-stands s registers (Under k) m = tt
num-stands s registers Unbounded m = tt

difference-stands : (s : Instance) (registers : ℕ → ℕ) (x : Value) (q : Extent) (m n : ℕ) → HasRoom s → Stands s registers x m → ExtentStands s registers q n → Stands s registers (subtract_extent (table_list s) x q) ((m + (2 ^ 64 - n)) % 2 ^ 64)
difference-stands s registers x (Exactly d) m n room h g =
    let R : ℕ → Type 0 = λ k. Stands s registers (add x (Const ((2 ^ 64 - d) % 2 ^ 64)) (table_list s)) k in
    let same : (m + (2 ^ 64 - d) % 2 ^ 64) % 2 ^ 64 ≡ (m + (2 ^ 64 - n)) % 2 ^ 64 = omega arith in
    subst R same (sums-stand s registers x (Const ((2 ^ 64 - d) % 2 ^ 64)) m ((2 ^ 64 - d) % 2 ^ 64) room h refl)
difference-stands s registers x (Other w) m n room h g = tt
difference-stands s registers x (Under k) m n room h g = num-stands s registers (extent_of x) ((m + (2 ^ 64 - n)) % 2 ^ 64)
difference-stands s registers x Unbounded m n room h g = num-stands s registers (extent_of x) ((m + (2 ^ 64 - n)) % 2 ^ 64)

pub differences-stand : DifferencesStand
differences-stand s registers x y m n room hy h g = difference-stands s registers x (extent_of y) m n room h (extent-stands s registers y n g)
