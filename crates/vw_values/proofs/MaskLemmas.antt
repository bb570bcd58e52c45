-- Bits that two numbers share: what the results are, and that they rise and stand.
use Rattle.std.proofs.Common.{◌≡◌, ℕ, ◌+◌, ◌%◌, ◌^◌, ◌<◌, ◌≤◌, Option, Some, None, List, refl, sym, ap, subst, ◌∙◌, arith}
use Rattle.std.specs.Prelude.{bit_and}
use Rattle.std.proofs.lemmas.Nat.{and_le_l, and_le_r}
use Rattle.vw_insn.specs.declared.registers.Width.TheVariants.{W8, W16, W32, W64}
use Rattle.vw_values.specs.Bounds.{IsMember, IsBounds, first_from}
use Rattle.vw_values.specs.declared.value.Value.{Value}
use Rattle.vw_values.specs.declared.value.Value.TheVariants.{Const, Below, Both}
use Rattle.vw_values.specs.declared.extent.Extent.{Extent}
use Rattle.vw_values.specs.declared.extent.Extent.TheVariants.{Exactly, Under, Unbounded, Other}
use Rattle.vw_values.specs.Values.{IsValue, IsValid, value_below}
use Rattle.vw_values.specs.Sums.{extent_of, below_or_num}
use Rattle.vw_values.specs.Narrowing.{narrow32}
use Rattle.vw_values.specs.Masks.{bound_of, lesser, and_extents}
use Rattle.vw_values.specs.Stands.{Instance, Stands}
use Rattle.vw_values.specs.Laws.{AndsAreValid, AndsRise, AndsStand}
use Rattle.vw_values.proofs.UpLemmas.{first-is-up, first-none}
use Rattle.vw_values.proofs.SoundSums.{ExtentStands, extent-stands}
use Rattle.vw_values.proofs.RisingSums.{extent_below, extents-below}
use Rattle.vw_values.proofs.NarrowLemmas.{lows-rise, low-stands, low-valid, low-in-range, min-listed}

-- an order of bounds in which none is greatest
abbrev pub bound_below : Option ℕ → Option ℕ → Type 0
bound_below o None = Unit {0}
bound_below None (Some k) = ⊥
bound_below (Some j) (Some k) = j ≤ k

abbrev pub IsListed : List ℕ → Extent → Type 0
IsListed b (Under k) = IsMember b k
IsListed b _ = Unit {0}

pub extent-listed : (b : List ℕ) (v : Value) → IsBounds b → IsValid b v → IsListed b (extent_of v)
extent-listed b (Below k) bounds h = h.1
extent-listed b (Both k) bounds h = bounds.powers 33 (omega arith)
extent-listed b _ bounds h = tt

none-some : {k : ℕ} → ◌≡◌ {A = Option ℕ} None (Some k) → ⊥
none-some e = cc

some-equal : {j k : ℕ} → Some j ≡ Some k → j ≡ k
some-equal e = cc

-- the least bound above a number is at most any listed one above it
pub up-most : (b : List ℕ) (c k : ℕ) → IsBounds b → c < k → IsMember b k → bound_below (first_from (c + 1) b) (Some k)
up-most b c k bounds less within = go (first_from (c + 1) b) refl
  where
    go : (o : Option ℕ) → first_from (c + 1) b ≡ o → bound_below o (Some k)
    go None e = let small = first-none (c + 1) b e k within in omega arith
    go (Some j) e = (first-is-up (c + 1) j b bounds.ascending e).least k within (omega arith)

bound-same : (o : Option ℕ) → bound_below o o
bound-same None = tt
bound-same (Some k) = omega arith

bounds-rise : (b : List ℕ) (q p : Extent) → IsBounds b → IsListed b q → extent_below p q → bound_below (bound_of b p) (bound_of b q)
bounds-rise b (Exactly d) (Exactly c) bounds h f = subst (λ x. bound_below (first_from (x + 1) b) (first_from (d + 1) b)) (sym f) (bound-same (first_from (d + 1) b))
bounds-rise b (Exactly d) _ bounds h f = absurd f
bounds-rise b (Under k) (Exactly c) bounds h f = up-most b c k bounds f h
bounds-rise b (Under k) (Under j) bounds h f = f
bounds-rise b (Under k) _ bounds h f = absurd f
bounds-rise b _ p bounds h f = tt

lessers-rise : (p p' q q' : Option ℕ) → bound_below p p' → bound_below q q' → bound_below (lesser p q) (lesser p' q')
lessers-rise p None q None f g = tt
lessers-rise None None q (Some l) f g = g
lessers-rise (Some j) None (Some k) (Some l) f g = omega arith
lessers-rise (Some j) (Some i) None None f g = f
lessers-rise (Some j) (Some i) (Some k) None f g = omega arith
lessers-rise (Some j) (Some i) (Some k) (Some l) f g = omega arith
lessers-rise (Some j) None None (Some l) f g = absurd g
lessers-rise (Some j) (Some i) None (Some l) f g = absurd g
lessers-rise None (Some i) q o f g = absurd f

below-rises : (o u : Option ℕ) → bound_below o u → value_below (below_or_num o) (below_or_num u)
below-rises None None f = tt
below-rises (Some j) None f = tt
below-rises (Some j) (Some k) f = f
below-rises None (Some k) f = absurd f

-- a number is below each of its bounds
under-bound : (b : List ℕ) (c : ℕ) (p : Extent) (k : ℕ) → IsBounds b → extent_below (Exactly c) p → bound_of b p ≡ Some k → c < k
under-bound b c (Exactly d) k bounds f e = let up = first-is-up (d + 1) k b bounds.ascending e in omega (arith, up.above)
under-bound b c (Under j) k bounds f e = let same = some-equal e in omega arith
under-bound b c Unbounded k bounds f e = absurd (none-some e)
under-bound b c (Other v) k bounds f e = absurd (none-some e)

under-lesser : (x : ℕ) (o u : Option ℕ) → ((k : ℕ) → o ≡ Some k → x < k) → ((k : ℕ) → u ≡ Some k → x < k) → value_below (Const x) (below_or_num (lesser o u))
under-lesser x None None f g = tt
under-lesser x None (Some k) f g = g k refl
under-lesser x (Some j) None f g = f j refl
under-lesser x (Some j) (Some k) f g = let left = f j refl in let right = g k refl in omega arith

const-and : (b : List ℕ) (c d : ℕ) (p q : Extent) → IsBounds b → extent_below (Exactly c) p → extent_below (Exactly d) q → value_below (Const (bit_and c d)) (below_or_num (lesser (bound_of b p) (bound_of b q)))
const-and b c d p q bounds f g =
    let left = and_le_l c d in
    let right = and_le_r c d in
    under-lesser (bit_and c d) (bound_of b p) (bound_of b q)
    (λ k e. let less = under-bound b c p k bounds f e in omega arith)
    (λ k e. let less = under-bound b d q k bounds g e in omega arith)

any-and : (b : List ℕ) (p p' q q' : Extent) → IsBounds b → IsListed b p' → IsListed b q' → extent_below p p' → extent_below q q' → value_below (below_or_num (lesser (bound_of b p) (bound_of b q))) (below_or_num (lesser (bound_of b p') (bound_of b q')))
any-and b p p' q q' bounds h g f e = below-rises (lesser (bound_of b p) (bound_of b q)) (lesser (bound_of b p') (bound_of b q')) (lessers-rise (bound_of b p) (bound_of b p') (bound_of b q) (bound_of b q') (bounds-rise b p' p bounds h f) (bounds-rise b q' q bounds g e))

ands-rise-extents : (b : List ℕ) (p' q' p q : Extent) → IsBounds b → IsListed b p' → IsListed b q' → extent_below p p' → extent_below q q' → value_below (and_extents b p q) (and_extents b p' q')
ands-rise-extents b (Exactly c') (Exactly d') (Exactly c) (Exactly d) bounds h g f e = ap (λ x. Const (bit_and x d)) f ∙ ap (λ y. Const (bit_and c' y)) e
ands-rise-extents b (Exactly c') (Exactly d') (Exactly c) _ bounds h g f e = absurd e
ands-rise-extents b (Exactly c') (Exactly d') _ q bounds h g f e = absurd f
ands-rise-extents b (Exactly c') q' (Exactly c) (Exactly d) bounds h g f e = const-and b c d (Exactly c') q' bounds f e
ands-rise-extents b p' q' (Exactly c) (Exactly d) bounds h g f e = const-and b c d p' q' bounds f e
ands-rise-extents b p' q' p q bounds h g f e = any-and b p p' q q' bounds h g f e

-- the operands as they are seen at a width
whole-rise : (b : List ℕ) (x x' y y' : Value) → IsBounds b → IsValue x → IsValid b x' → IsValue y → IsValid b y' → value_below x x' → value_below y y' → value_below (and_extents b (extent_of x) (extent_of y)) (and_extents b (extent_of x') (extent_of y'))
whole-rise b x x' y y' bounds hx hx' hy hy' f g =
    ands-rise-extents b (extent_of x') (extent_of y') (extent_of x) (extent_of y) bounds (extent-listed b x' bounds hx') (extent-listed b y' bounds hy')
    (extents-below x x' hx hx'.0 f) (extents-below y y' hy hy'.0 g)

pub ands-rise : AndsRise
ands-rise b x x' y y' W8 bounds hx hx' hy hy' f g = tt
ands-rise b x x' y y' W16 bounds hx hx' hy hy' f g = tt
ands-rise b x x' y y' W32 bounds hx hx' hy hy' f g =
    whole-rise b (narrow32 x) (narrow32 x') (narrow32 y) (narrow32 y') bounds (low-in-range x hx) (low-valid b x' bounds hx') (low-in-range y hy) (low-valid b y' bounds hy')
    (lows-rise x x' hx hx'.0 f) (lows-rise y y' hy hy'.0 g)
ands-rise b x x' y y' W64 bounds hx hx' hy hy' f g = whole-rise b x x' y y' bounds hx hx' hy hy' f g

stands-under : (b : List ℕ) (p : Extent) (m k : ℕ) (i : Instance) (registers : ℕ → ℕ) → IsBounds b → ExtentStands i registers p m → bound_of b p ≡ Some k → m < k
stands-under b (Exactly c) m k i registers bounds h e = let up = first-is-up (c + 1) k b bounds.ascending e in omega (arith, up.above)
stands-under b (Under j) m k i registers bounds h e = let same = some-equal e in omega arith
stands-under b Unbounded m k i registers bounds h e = absurd (none-some e)
stands-under b (Other v) m k i registers bounds h e = absurd (none-some e)

stands-lesser : (x : ℕ) (o u : Option ℕ) (i : Instance) (registers : ℕ → ℕ) → ((k : ℕ) → o ≡ Some k → x < k) → ((k : ℕ) → u ≡ Some k → x < k) → Stands i registers (below_or_num (lesser o u)) x
stands-lesser x None None i registers f g = tt
stands-lesser x None (Some k) i registers f g = g k refl
stands-lesser x (Some j) None i registers f g = f j refl
stands-lesser x (Some j) (Some k) i registers f g = let left = f j refl in let right = g k refl in omega arith

module _ (i : Instance) (registers : ℕ → ℕ) (b : List ℕ) (bounds : IsBounds b) where
  any-stands : (p q : Extent) (m n : ℕ) → ExtentStands i registers p m → ExtentStands i registers q n → Stands i registers (below_or_num (lesser (bound_of b p) (bound_of b q))) (bit_and m n)
  any-stands p q m n h g =
      let left = and_le_l m n in
      let right = and_le_r m n in
      stands-lesser (bit_and m n) (bound_of b p) (bound_of b q) i registers
      (λ k e. let less = stands-under b p m k i registers bounds h e in omega arith)
      (λ k e. let less = stands-under b q n k i registers bounds g e in omega arith)

  and-stands : (p q : Extent) (m n : ℕ) → ExtentStands i registers p m → ExtentStands i registers q n → Stands i registers (and_extents b p q) (bit_and m n)
  and-stands (Exactly c) (Exactly d) m n h g = rw (h, g) refl
  and-stands (Exactly c) q m n h g = any-stands (Exactly c) q m n h g
  and-stands p q m n h g = any-stands p q m n h g

pub ands-stand : AndsStand
ands-stand s registers b x y W8 m n bounds wide hx hy = absurd wide
ands-stand s registers b x y W16 m n bounds wide hx hy = absurd wide
ands-stand s registers b x y W32 m n bounds wide hx hy =
    and-stands s registers b bounds (extent_of (narrow32 x)) (extent_of (narrow32 y)) (m % 2 ^ 32) (n % 2 ^ 32)
    (extent-stands s registers (narrow32 x) (m % 2 ^ 32) (low-stands s registers x m hx)) (extent-stands s registers (narrow32 y) (n % 2 ^ 32) (low-stands s registers y n hy))
ands-stand s registers b x y W64 m n bounds wide hx hy =
    and-stands s registers b bounds (extent_of x) (extent_of y) m n (extent-stands s registers x m hx) (extent-stands s registers y n hy)

-- ---- valid results

-- a number below a bound, or any
abbrev IsBoundValid : List ℕ → Option ℕ → Type 0
IsBoundValid b None = Unit {0}
IsBoundValid b (Some k) = IsMember b k

listed-valid : (b : List ℕ) (o : Option ℕ) → IsBounds b → IsBoundValid b o → IsValid b (below_or_num o)
listed-valid b None bounds h = (tt, tt)
listed-valid b (Some k) bounds h = ((bounds.positive k h, bounds.range k h), h)

bound-valid : (b : List ℕ) (p : Extent) → IsBounds b → IsListed b p → IsBoundValid b (bound_of b p)
bound-valid b (Exactly c) bounds h = go (first_from (c + 1) b) refl
  where
    go : (o : Option ℕ) → first_from (c + 1) b ≡ o → IsBoundValid b o
    go None e = tt
    go (Some k) e = (first-is-up (c + 1) k b bounds.ascending e).member
bound-valid b (Under k) bounds h = h
bound-valid b Unbounded bounds h = tt
bound-valid b (Other v) bounds h = tt

lesser-valid : (b : List ℕ) (o u : Option ℕ) → IsBoundValid b o → IsBoundValid b u → IsBoundValid b (lesser o u)
lesser-valid b None u f g = g
lesser-valid b (Some j) None f g = f
lesser-valid b (Some j) (Some k) f g = min-listed b j k f g

abbrev IsWord : Extent → Type 0
IsWord (Exactly c) = c < 2 ^ 64
IsWord _ = Unit {0}

extent-word : (v : Value) → IsValue v → IsWord (extent_of v)
extent-word (Const c) h = h
extent-word _ h = tt

any-and-valid : (b : List ℕ) (p q : Extent) → IsBounds b → IsListed b p → IsListed b q → IsValid b (below_or_num (lesser (bound_of b p) (bound_of b q)))
any-and-valid b p q bounds h g = listed-valid b (lesser (bound_of b p) (bound_of b q)) bounds (lesser-valid b (bound_of b p) (bound_of b q) (bound-valid b p bounds h) (bound-valid b q bounds g))

and-valid : (b : List ℕ) (p q : Extent) → IsBounds b → IsListed b p → IsListed b q → IsWord p → IsValid b (and_extents b p q)
and-valid b (Exactly c) (Exactly d) bounds h g word = let most = and_le_l c d in (omega arith, tt)
and-valid b (Exactly c) q bounds h g word = any-and-valid b (Exactly c) q bounds h g
and-valid b p q bounds h g word = any-and-valid b p q bounds h g

pub ands-valid : AndsAreValid
ands-valid b x y W8 bounds hx hy = (tt, tt)
ands-valid b x y W16 bounds hx hy = (tt, tt)
ands-valid b x y W32 bounds hx hy =
    let lx = low-valid b x bounds hx in
    let ly = low-valid b y bounds hy in
    and-valid b (extent_of (narrow32 x)) (extent_of (narrow32 y)) bounds (extent-listed b (narrow32 x) bounds lx) (extent-listed b (narrow32 y) bounds ly) (extent-word (narrow32 x) lx.0)
ands-valid b x y W64 bounds hx hy = and-valid b (extent_of x) (extent_of y) bounds (extent-listed b x bounds hx) (extent-listed b y bounds hy) (extent-word x hx.0)
