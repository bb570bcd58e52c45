-- What comparisons leave of values: it is valid, it rises, and it stands for each number that passes.
use Rattle.std.proofs.Common.{◌≡◌, ℕ, ◌+◌, ◌/◌, ◌%◌, ◌^◌, ◌<◌, ◌≤◌, ◌⊎◌, inl, inr, Bool, true, false, Option, Some, None, List, refl, sym, ap, subst, arith, min, nat_lt, if◌then◌else◌}
use Rattle.std.specs.Prelude.{◌==◌, ◌&&◌}
use Rattle.std.proofs.lemmas.Bool.Decides.{nat_tests}
use Rattle.vw_insn.specs.declared.registers.Width.{Width}
use Rattle.vw_insn.specs.declared.registers.Width.TheVariants.{W8, W16, W32, W64}
use Rattle.vw_insn.specs.Listed.{IsWide}
use Rattle.vw_insn.specs.Words.{low}
use Rattle.vw_values.specs.Bounds.{IsBounds, first_from}
use Rattle.vw_values.specs.declared.value.Value.{Value}
use Rattle.vw_values.specs.declared.value.Value.TheVariants.{Any, Num, Const, Below, Low, Both, HeapBase, HeapAddr, Index16, EntryPtr, EntryTyped, JumpOff, JumpDest}
use Rattle.vw_values.specs.Values.{IsValue, IsValid, IsNumber, value_below}
use Rattle.vw_values.specs.Shapes.{shape_of, number_of}
use Rattle.vw_values.specs.ValueOrder.{value-trans}
use Rattle.vw_values.specs.Refinements.{below, equal_whole, cut, cut_below, const_below, const_where}
use Rattle.vw_values.specs.Stands.{Instance, Stands}
use Rattle.vw_values.specs.Laws.{IsOpen, IsLower, IsValidWhere, StandsWhere, BelowIsValid, BelowRises, BelowStands, EqualIsValid, EqualRises, EqualStands}
use Rattle.vw_values.proofs.JoinLemmas.{by-bounded}
use Rattle.vw_values.proofs.GreaterValues.{greater-stands}
use Rattle.vw_values.proofs.Meets.{pair, meet, meet-valid, meet-left, meet-right, meet-greatest, CutsTo, cuts-to, cut-valid}

true-false : true ≡ false → ⊥
true-false e = cc

any-lower : (o : Option Value) → IsLower o (Some Any)
any-lower None = tt
any-lower (Some v) = tt

-- the cases of the tests
by-const : (P : Option Value → Type 0) (c : ℕ) (w : Width) (k : ℕ) → (low w c < k → P (Some (Const c))) → (k ≤ low w c → P None) → P (const_below c w k)
by-const P c w k f g = go (nat_lt (low w c) k) refl
  where
    go : (test : Bool) → nat_lt (low w c) k ≡ test → P (if test then Some (Const c) else None)
    go true e = f (grind (arith, nat_tests))
    go false e = g (grind (arith, nat_tests))

by-zero : (P : Option Value → Type 0) (k : ℕ) (v : Value) → (k ≡ 0 → P None) → (1 ≤ k → P (Some v)) → P (if k == 0 then None else Some v)
by-zero P k v f g = go (k == 0) refl
  where
    go : (test : Bool) → (k == 0) ≡ test → P (if test then None else Some v)
    go true e = f (grind (arith, nat_tests))
    go false e = g (grind (arith, nat_tests))

-- ---- which values are refined

pub number-below : (y x : Value) → value_below x y → IsNumber y → IsNumber x
number-below Num x f n = f
number-below (Const c) x f n = subst IsNumber (sym f) tt
number-below (Below k) (Const c) f n = tt
number-below (Below k) (Below c) f n = tt
number-below (Below k) (Both c) f n = tt
number-below (Below k) _ f n = absurd f
number-below (Low k) (Const c) f n = tt
number-below (Low k) (Below c) f n = tt
number-below (Low k) (Both c) f n = tt
number-below (Low k) (Low c) f n = tt
number-below (Low k) _ f n = absurd f
number-below (Both k) (Const c) f n = tt
number-below (Both k) (Below c) f n = tt
number-below (Both k) (Both c) f n = tt
number-below (Both k) _ f n = absurd f
number-below _ x f n = absurd n

-- Any or a symbol, which stays
record IsSymbol (v : Value) : Type 0 where
  no_number : IsNumber v → ⊥
  stays_below : (w : Width) (k : ℕ) (b : List ℕ) → below v w k b ≡ Some v
  stays_equal : (k : ℕ) → equal_whole v k ≡ Some v

kind : (v : Value) → IsNumber v ⊎ IsSymbol v
kind Num = inl tt
kind (Const c) = inl tt
kind (Below k) = inl tt
kind (Low k) = inl tt
kind (Both k) = inl tt
kind _ = inr record { no_number = λ n. n; stays_below = λ w k b. refl; stays_equal = λ k. refl }

-- above a number no symbol is
symbol-above : (y x : Value) → value_below x y → IsSymbol y → IsNumber x → y ≡ Any
symbol-above Any x f s n = refl
symbol-above Num x f s n = absurd (s.no_number tt)
symbol-above (Const c) x f s n = absurd (s.no_number tt)
symbol-above (Below k) x f s n = absurd (s.no_number tt)
symbol-above (Low k) x f s n = absurd (s.no_number tt)
symbol-above (Both k) x f s n = absurd (s.no_number tt)
symbol-above HeapAddr HeapBase f s n = absurd n
symbol-above HeapAddr HeapAddr f s n = absurd n
symbol-above HeapAddr _ f s n = absurd f
symbol-above (Index16 k m) (Index16 j o) f s n = absurd n
symbol-above (Index16 k m) _ f s n = absurd f
symbol-above (EntryPtr t) (EntryPtr u) f s n = absurd n
symbol-above (EntryPtr t) (EntryTyped u g) f s n = absurd n
symbol-above (EntryPtr t) _ f s n = absurd f
symbol-above (JumpOff a k) (JumpOff c j) f s n = absurd n
symbol-above (JumpOff a k) _ f s n = absurd f
symbol-above (JumpDest a k) (JumpDest c j) f s n = absurd n
symbol-above (JumpDest a k) _ f s n = absurd f
symbol-above _ x f s n = absurd (subst IsNumber f n)

-- ---- x < k rises

module _ (b : List ℕ) (w : Width) (k : ℕ) (bounds : IsBounds b) (wide : IsWide w) where
  cut-rises : (x y : Value) → IsOpen x → IsOpen y → IsValue x → IsValue y → value_below x y → value_below (cut w (first_from k b) x) (cut w (first_from k b) y)
  cut-rises x y ox oy hx hy f = go (cuts-to b w k bounds wide)
    where
      go : CutsTo w k (first_from k b) → value_below (cut w (first_from k b) x) (cut w (first_from k b) y)
      go (inl stays) = rw (stays x, stays y) f
      go (inr c) =
          let top = c.0 in
          let px = pair x ox hx in
          let py = pair y oy hy in
          let pt = pair top c.1.is_open c.1.in_range in
          let mx = meet-valid x top px pt in
          rw (c.1.meets x ox hx, c.1.meets y oy hy)
          (meet-greatest y top py pt (meet x top) mx (value-trans (meet x top) x y mx hx hy (meet-left x top px pt) f) (meet-right x top px pt))

  const-rises : (c : ℕ) (y : Value) → c < 2 ^ 64 → IsOpen y → IsValue y → value_below (Const c) y → low w c < k → value_below (Const c) (cut w (first_from k b) y)
  const-rises c y word oy hy f less = go (cuts-to b w k bounds wide)
    where
      go : CutsTo w k (first_from k b) → value_below (Const c) (cut w (first_from k b) y)
      go (inl stays) = rw (stays y) f
      go (inr p) = rw (p.1.meets y oy hy) (meet-greatest y p.0 (pair y oy hy) (pair p.0 p.1.is_open p.1.in_range) (Const c) word f (p.1.consts c word less))

  const-lower : (c : ℕ) (y : Value) → c < 2 ^ 64 → IsOpen y → IsValue y → value_below (Const c) y → IsLower (const_below c w k) (cut_below y w k b)
  const-lower c y word oy hy f =
      by-const (λ o. IsLower o (cut_below y w k b)) c w k
      (λ less. by-zero (λ o. IsLower (Some (Const c)) o) k (cut w (first_from k b) y) (λ zero. absurd (omega arith)) (λ _. const-rises c y word oy hy f less))
      (λ _. tt)

  open-lower : (x y : Value) → IsOpen x → IsOpen y → IsValue x → IsValue y → value_below x y → IsLower (cut_below x w k b) (cut_below y w k b)
  open-lower x y ox oy hx hy f = go (k == 0)
    where
      go : (test : Bool) → IsLower (if test then None else Some (cut w (first_from k b) x)) (if test then None else Some (cut w (first_from k b) y))
      go true = tt
      go false = cut-rises x y ox oy hx hy f

  -- under a number that is no Const
  number-lower : (x y : Value) → IsValue x → IsOpen y → IsValue y → value_below x y → IsNumber x → IsLower (below x w k b) (cut_below y w k b)
  number-lower (Const c) y hx oy hy f n = const-lower c y hx oy hy f
  number-lower Num y hx oy hy f n = open-lower Num y tt oy hx hy f
  number-lower (Below j) y hx oy hy f n = open-lower (Below j) y tt oy hx hy f
  number-lower (Low j) y hx oy hy f n = open-lower (Low j) y tt oy hx hy f
  number-lower (Both j) y hx oy hy f n = open-lower (Both j) y tt oy hx hy f
  number-lower _ y hx oy hy f n = absurd n

  const-same : (c : ℕ) (x : Value) → x ≡ Const c → IsLower (below x w k b) (const_below c w k)
  const-same c x e =
      let R : Value → Type 0 = λ v. IsLower (below v w k b) (const_below c w k) in
      subst R (sym e) (by-const (λ o. IsLower o o) c w k (λ _. refl) (λ _. tt))

  numbers-lower : (y x : Value) → IsValue x → IsValue y → value_below x y → IsNumber y → IsNumber x → IsLower (below x w k b) (below y w k b)
  numbers-lower (Const c) x hx hy f n m = const-same c x f
  numbers-lower Num x hx hy f n m = number-lower x Num hx tt hy f m
  numbers-lower (Below j) x hx hy f n m = number-lower x (Below j) hx tt hy f m
  numbers-lower (Low j) x hx hy f n m = number-lower x (Low j) hx tt hy f m
  numbers-lower (Both j) x hx hy f n m = number-lower x (Both j) hx tt hy f m
  numbers-lower _ x hx hy f n m = absurd n

pub below-rises : BelowRises
below-rises b x y w k bounds wide hx hy f =
    elim (kind y) [
      | inl number ↦ numbers-lower b w k bounds wide y x hx hy f number (number-below y x f number)
      | inr symbol ↦ elim (kind x) [
        | inl m ↦ let top = symbol-above y x f symbol m in rw top (any-lower (below x w k b))
        | inr other ↦ rw (other.stays_below w k b, symbol.stays_below w k b) f
      ]
    ]

-- ---- x = k rises: the number k is one that a number stands for, or it is none of them

abbrev Kept : Value → ℕ → Option Value → Type 0
Kept v k o = (value_below (Const k) v × (o ≡ Some (Const k))) ⊎ ((value_below (Const k) v → ⊥) × (o ≡ None))

kept-where : (v : Value) (test : Bool) (k : ℕ) → (test ≡ true → value_below (Const k) v) → (test ≡ false → value_below (Const k) v → ⊥) → Kept v k (const_where test k)
kept-where v true k f g = inl (f refl, refl)
kept-where v false k f g = inr (g refl, refl)

const-apart : (c k : ℕ) → (c == k) ≡ false → Const k ≡ Const c → ⊥
const-apart c k e same = let number : k ≡ c = cc in grind (arith, nat_tests)

kept : (v : Value) (k : ℕ) → IsNumber v → Kept v k (equal_whole v k)
kept Num k n = inl (tt, refl)
kept (Const c) k n = kept-where (Const c) (c == k) k (λ e. let same : c ≡ k = grind (arith, nat_tests) in ap Const (sym same)) (λ e same. const-apart c k e same)
kept (Below j) k n = kept-where (Below j) (nat_lt k j) k (λ e. grind (arith, nat_tests)) (λ e h. grind (arith, nat_tests))
kept (Low j) k n = kept-where (Low j) (nat_lt (k % 2 ^ 32) j) k (λ e. grind (arith, nat_tests)) (λ e h. grind (arith, nat_tests))
kept (Both j) k n = kept-where (Both j) (nat_lt k (2 ^ 33) && nat_lt (k % 2 ^ 32) j) k (λ e. (grind (arith, nat_tests), grind (arith, nat_tests))) (λ e h. both-apart (nat_lt k (2 ^ 33)) (nat_lt (k % 2 ^ 32) j) e (grind (arith, nat_tests)) (grind (arith, nat_tests)))
  where
    both-apart : (t u : Bool) → (t && u) ≡ false → t ≡ true → u ≡ true → ⊥
    both-apart true true e f g = true-false e
    both-apart true false e f g = true-false (sym g)
    both-apart false u e f g = true-false (sym f)
kept _ k n = absurd n

whole-rises : (x y : Value) (k : ℕ) → k < 2 ^ 64 → IsValue x → IsValue y → value_below x y → IsLower (equal_whole x k) (equal_whole y k)
whole-rises x y k word hx hy f =
    elim (kind y) [
      | inl number ↦ tested (kept x k (number-below y x f number)) (kept y k number)
      | inr symbol ↦ elim (kind x) [
        | inl m ↦ let top = symbol-above y x f symbol m in rw top (any-lower (equal_whole x k))
        | inr other ↦ rw (other.stays_equal k, symbol.stays_equal k) f
      ]
    ]
  where
    tested : Kept x k (equal_whole x k) → Kept y k (equal_whole y k) → IsLower (equal_whole x k) (equal_whole y k)
    tested (inl p) (inl q) = rw (p.1, q.1) refl
    tested (inl p) (inr q) = absurd (q.0 (value-trans (Const k) x y word hx hy p.0 f))
    tested (inr p) q = rw p.1 tt

pub equal-rises : EqualRises
equal-rises b x y W8 k bounds wide word hx hy f = absurd wide
equal-rises b x y W16 k bounds wide word hx hy f = absurd wide
equal-rises b x y W32 k bounds wide word hx hy f = below-rises b x y W32 (k + 1) bounds wide hx hy f
equal-rises b x y W64 k bounds wide word hx hy f = whole-rises x y k word hx hy f

-- ---- valid results

cut-below-valid : (b : List ℕ) (v : Value) (w : Width) (k : ℕ) → IsBounds b → IsWide w → IsOpen v → IsValid b v → IsValidWhere b (cut_below v w k b)
cut-below-valid b v w k bounds wide o h = by-zero (IsValidWhere b) k (cut w (first_from k b) v) (λ _. tt) (λ _. cut-valid b w k v bounds wide o h)

pub below-valid : BelowIsValid
below-valid b (Const c) w k bounds wide h = by-const (IsValidWhere b) c w k (λ _. h) (λ _. tt)
below-valid b Num w k bounds wide h = cut-below-valid b Num w k bounds wide tt h
below-valid b (Below j) w k bounds wide h = cut-below-valid b (Below j) w k bounds wide tt h
below-valid b (Low j) w k bounds wide h = cut-below-valid b (Low j) w k bounds wide tt h
below-valid b (Both j) w k bounds wide h = cut-below-valid b (Both j) w k bounds wide tt h
below-valid b _ w k bounds wide h = h

whole-valid : (b : List ℕ) (x : Value) (k : ℕ) → k < 2 ^ 64 → IsValid b x → IsValidWhere b (equal_whole x k)
whole-valid b x k word h =
    elim (kind x) [
      | inl number ↦ tested (kept x k number)
      | inr symbol ↦ rw (symbol.stays_equal k) h
    ]
  where
    tested : Kept x k (equal_whole x k) → IsValidWhere b (equal_whole x k)
    tested (inl p) = rw p.1 (word, tt)
    tested (inr p) = rw p.1 tt

pub equal-valid : EqualIsValid
equal-valid b x W8 k bounds wide word h = absurd wide
equal-valid b x W16 k bounds wide word h = absurd wide
equal-valid b x W32 k bounds wide word h = below-valid b x W32 (k + 1) bounds wide h
equal-valid b x W64 k bounds wide word h = whole-valid b x k word h

-- ---- what stands for the results

module _ (s : Instance) (registers : ℕ → ℕ) where
  in-pair : (v : Value) (m : ℕ) → IsOpen v → IsValue v → m < 2 ^ 64 → Stands s registers v m → (m / 2 ^ 32 ≤ (shape_of v).high) × (m % 2 ^ 32 < (shape_of v).low)
  in-pair Num m o h word st = (omega arith, omega arith)
  in-pair (Below k) m o h word st = (omega arith, omega arith)
  in-pair (Low k) m o h word st = (omega arith, omega arith)
  in-pair (Both k) m o h word st = (omega arith, omega arith)
  in-pair _ m o h word st = absurd o

  from-pair : (high low m : ℕ) → m / 2 ^ 32 ≤ high → m % 2 ^ 32 < low → Stands s registers (number_of high low) m
  from-pair high low m h l =
      by-bounded (λ v. Stands s registers v m) high low (λ zero. omega arith) (λ one less. (omega arith, l)) (λ one full. omega arith) (λ two less. l) (λ two full. tt)

  meet-stands : (v w : Value) (m : ℕ) → IsOpen v → IsOpen w → IsValue v → IsValue w → m < 2 ^ 64 → Stands s registers v m → Stands s registers w m → Stands s registers (meet v w) m
  meet-stands v w m ov ow hv hw word left right =
      let first = in-pair v m ov hv word left in
      let second = in-pair w m ow hw word right in
      from-pair (min (shape_of v).high (shape_of w).high) (min (shape_of v).low (shape_of w).low) m (omega arith) (omega arith)

  cut-stands : (b : List ℕ) (w : Width) (k : ℕ) (v : Value) (m : ℕ) → IsBounds b → IsWide w → IsOpen v → IsValue v → m < 2 ^ 64 → low w m < k → Stands s registers v m → Stands s registers (cut w (first_from k b) v) m
  cut-stands b w k v m bounds wide o h word less st = go (cuts-to b w k bounds wide)
    where
      go : CutsTo w k (first_from k b) → Stands s registers (cut w (first_from k b) v) m
      go (inl stays) = rw (stays v) st
      go (inr c) =
          let top = greater-stands s registers (Const m) c.0 m word c.1.in_range (c.1.consts m word less) refl in
          rw (c.1.meets v o h) (meet-stands v c.0 m o c.1.is_open h c.1.in_range word st top)

  cut-below-stands : (b : List ℕ) (w : Width) (k : ℕ) (v : Value) (m : ℕ) → IsBounds b → IsWide w → IsOpen v → IsValue v → m < 2 ^ 64 → low w m < k → Stands s registers v m → StandsWhere s registers (cut_below v w k b) m
  cut-below-stands b w k v m bounds wide o h word less st =
      by-zero (λ r. StandsWhere s registers r m) k (cut w (first_from k b) v) (λ zero. absurd (omega arith)) (λ _. cut-stands b w k v m bounds wide o h word less st)

pub below-stands : BelowStands
below-stands s registers b (Const c) w k m bounds wide h word less st =
    by-const (λ o. StandsWhere s registers o m) c w k (λ _. st) (λ most. let same : low w m ≡ low w c = ap (low w) st in absurd (omega arith))
below-stands s registers b Num w k m bounds wide h word less st = cut-below-stands s registers b w k Num m bounds wide tt h word less st
below-stands s registers b (Below j) w k m bounds wide h word less st = cut-below-stands s registers b w k (Below j) m bounds wide tt h word less st
below-stands s registers b (Low j) w k m bounds wide h word less st = cut-below-stands s registers b w k (Low j) m bounds wide tt h word less st
below-stands s registers b (Both j) w k m bounds wide h word less st = cut-below-stands s registers b w k (Both j) m bounds wide tt h word less st
below-stands s registers b _ w k m bounds wide h word less st = st

const-in : (s : Instance) (registers : ℕ → ℕ) (x : Value) (m : ℕ) → IsNumber x → Stands s registers x m → value_below (Const m) x
const-in s registers Num m n st = tt
const-in s registers (Const c) m n st = ap Const st
const-in s registers (Below j) m n st = st
const-in s registers (Low j) m n st = st
const-in s registers (Both j) m n st = st
const-in s registers _ m n st = absurd n

whole-stands : (s : Instance) (registers : ℕ → ℕ) (x : Value) (k m : ℕ) → m ≡ k → Stands s registers x m → StandsWhere s registers (equal_whole x k) m
whole-stands s registers x k m is st =
    elim (kind x) [
      | inl number ↦ tested (kept x k number) (subst (λ j. value_below (Const j) x) is (const-in s registers x m number st))
      | inr symbol ↦ rw (symbol.stays_equal k) st
    ]
  where
    tested : Kept x k (equal_whole x k) → value_below (Const k) x → StandsWhere s registers (equal_whole x k) m
    tested (inl p) within = rw p.1 is
    tested (inr p) within = absurd (p.0 within)

pub equal-stands : EqualStands
equal-stands s registers b x W8 k m bounds wide hx word is st = absurd wide
equal-stands s registers b x W16 k m bounds wide hx word is st = absurd wide
equal-stands s registers b x W32 k m bounds wide hx word is st = below-stands s registers b x W32 (k + 1) m bounds wide hx word (omega arith) st
equal-stands s registers b x W64 k m bounds wide hx word is st = whole-stands s registers x k m is st
