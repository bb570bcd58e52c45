-- Low bits of values: what the results are, and that they rise and stand.
use Rattle.std.proofs.Common.{◌≡◌, ℕ, ◌+◌, ◌-◌, ◌%◌, ◌^◌, ◌<◌, ◌≤◌, ◌⊎◌, inl, inr, Bool, true, false, List, sym, ap, subst, arith, min, if◌then◌else◌}
use Rattle.vw_insn.specs.declared.registers.Width.{Width}
use Rattle.vw_insn.specs.declared.registers.Width.TheVariants.{W8, W16, W32, W64}
use Rattle.vw_insn.specs.Words.{low}
use Rattle.vw_insn.specs.Arithmetic.{extended, modulus, has_top_bit}
use Rattle.vw_insn.specs.Listed.{IsWide, IsNarrow}
use Rattle.vw_values.specs.Bounds.{IsMember, IsBounds}
use Rattle.vw_values.specs.declared.value.Value.{Value}
use Rattle.vw_values.specs.declared.value.Value.TheVariants.{Const, Below, Low, Both}
use Rattle.vw_values.specs.Values.{IsValue, IsValid, value_below, under_below, under_low, under_both}
use Rattle.vw_values.specs.Narrowing.{narrow32, const_or_below, low_bits, any_number, narrow}
use Rattle.vw_values.specs.Stands.{Instance, Stands}
use Rattle.vw_values.specs.Laws.{LowsAreValid, LowsRise, LowsStand, NarrowsAreValid, NarrowsRise, NarrowsStand}

pub low-stands : LowsStand
low-stands s registers (Const c) m h = ap (λ x. x % 2 ^ 32) h
low-stands s registers (Below k) m h = omega arith
low-stands s registers (Low k) m h = h
low-stands s registers (Both k) m h = h.1
low-stands s registers _ m h = omega arith

low-below : (k : ℕ) (x : Value) → IsValue x → k ≤ 2 ^ 32 → under_below k x → value_below (narrow32 x) (Below k)
low-below k (Const c) hx most h = omega arith
low-below k (Below j) hx most h = omega arith
low-below k (Both j) hx most h = omega arith
low-below k _ hx most h = absurd h

low-whole : (x : Value) → IsValue x → value_below (narrow32 x) (Below (2 ^ 32))
low-whole (Const c) h = omega arith
low-whole (Below j) h = omega arith
low-whole (Low j) h = omega arith
low-whole (Both j) h = omega arith
low-whole _ h = omega arith

low-low : (k : ℕ) (x : Value) → under_low k x → value_below (narrow32 x) (Below k)
low-low k (Const c) h = h
low-low k (Below j) h = omega arith
low-low k (Both j) h = h
low-low k (Low j) h = h
low-low k _ h = absurd h

low-both : (k : ℕ) (x : Value) → under_both k x → value_below (narrow32 x) (Below k)
low-both k (Const c) h = h.1
low-both k (Below j) h = omega arith
low-both k (Both j) h = h
low-both k _ h = absurd h

pub lows-rise : LowsRise
lows-rise x (Const c) hx hy h = ap narrow32 h
lows-rise x (Low k) hx hy h = low-low k x h
lows-rise x (Both k) hx hy h = low-both k x h
lows-rise x (Below k) hx hy h = elim hy.1 [ inl most ↦ rw (is-min k most) (low-below k x hx most h) | inr top ↦ rw (is-top k top) (low-whole x hx) ]
  where
    is-min : (k : ℕ) → k ≤ 2 ^ 32 → min k (2 ^ 32) ≡ k
    is-min k h = omega arith

    is-top : (k : ℕ) → k ≡ 2 ^ 33 → min k (2 ^ 32) ≡ 2 ^ 32
    is-top k h = omega arith
lows-rise x _ hx hy h = low-whole x hx

pub low-in-range : (x : Value) → IsValue x → IsValue (narrow32 x)
low-in-range (Const c) h = omega arith
low-in-range (Below k) h = (omega arith, inl (omega arith))
low-in-range (Low k) h = (omega arith, inl (omega arith))
low-in-range (Both k) h = (omega arith, inl (omega arith))
low-in-range _ h = (omega arith, inl (omega arith))

pub min-listed : (b : List ℕ) (j k : ℕ) → IsMember b j → IsMember b k → IsMember b (min j k)
min-listed b j k left right = elim (sides j k) [ inl e ↦ subst (λ x. IsMember b x) (sym e) left | inr e ↦ subst (λ x. IsMember b x) (sym e) right ]
  where
    sides : (j k : ℕ) → (min j k ≡ j) ⊎ (min j k ≡ k)
    sides j k = grind arith

pub low-valid : LowsAreValid
low-valid b (Const c) bounds h = (omega arith, tt)
low-valid b (Below k) bounds h = (low-in-range (Below k) h.0, min-listed b k (2 ^ 32) h.1 (bounds.powers 32 (omega arith)))
low-valid b (Low k) bounds h = (low-in-range (Low k) h.0, h.1)
low-valid b (Both k) bounds h = (low-in-range (Both k) h.0, h.1)
low-valid b _ bounds h = ((omega arith, inl (omega arith)), bounds.powers 32 (omega arith))

-- ---- other widths

const-or-below-most : (n : ℕ) (x : Value) → 0 < n → value_below (const_or_below n x) (Below n)
const-or-below-most n (Const c) positive = omega arith
const-or-below-most n _ positive = omega arith

const-or-below-rises : (n : ℕ) (y x : Value) → 0 < n → value_below x y → value_below (const_or_below n x) (const_or_below n y)
const-or-below-rises n (Const c) x positive h = ap (const_or_below n) h
const-or-below-rises n _ x positive h = const-or-below-most n x positive

low-bits-rise : (x y : Value) (w : Width) → IsValue x → IsValue y → value_below x y → value_below (low_bits w x) (low_bits w y)
low-bits-rise x y W8 hx hy h = const-or-below-rises (2 ^ 8) y x (omega arith) h
low-bits-rise x y W16 hx hy h = const-or-below-rises (2 ^ 16) y x (omega arith) h
low-bits-rise x y W32 hx hy h = lows-rise x y hx hy h
low-bits-rise x y W64 hx hy h = h

any-number-same : (w : Width) → value_below (any_number w) (any_number w)
any-number-same W8 = tt
any-number-same W16 = tt
any-number-same W32 = omega arith
any-number-same W64 = tt

pub narrows-rise : NarrowsRise
narrows-rise x y from to true hx hy h = any-number-same to
narrows-rise x y from to false hx hy h = low-bits-rise x y from hx hy h

const-or-below-stands : (s : Instance) (registers : ℕ → ℕ) (n : ℕ) (x : Value) (m : ℕ) → 0 < n → Stands s registers x m → Stands s registers (const_or_below n x) (m % n)
const-or-below-stands s registers n (Const c) m positive h = ap (λ k. k % n) h
const-or-below-stands s registers n _ m positive h = omega arith

low-bits-stand : (s : Instance) (registers : ℕ → ℕ) (x : Value) (w : Width) (m : ℕ) → Stands s registers x m → Stands s registers (low_bits w x) (low w m)
low-bits-stand s registers x W8 m h = const-or-below-stands s registers (2 ^ 8) x m (omega arith) h
low-bits-stand s registers x W16 m h = const-or-below-stands s registers (2 ^ 16) x m (omega arith) h
low-bits-stand s registers x W32 m h = low-stands s registers x m h
low-bits-stand s registers x W64 m h = h

-- what is extended to 32 bits has 32 bits
low-narrow : (w : Width) (m : ℕ) → IsNarrow w → low w m < 2 ^ 32
low-narrow W8 m h = omega arith
low-narrow W16 m h = omega arith
low-narrow W32 m h = omega arith
low-narrow W64 m h = absurd h

extended-half : (from : Width) (x : ℕ) → x < 2 ^ 32 → extended true from W32 x < 2 ^ 32
extended-half from x small = go (has_top_bit from x)
  where
    go : (test : Bool) → (if test then (x + (2 ^ 64 - modulus from)) % 2 ^ 32 else x) < 2 ^ 32
    go true = omega arith
    go false = small

any-number-stands : (s : Instance) (registers : ℕ → ℕ) (from to : Width) (x : ℕ) → IsWide to → x < 2 ^ 32 → Stands s registers (any_number to) (extended true from to x)
any-number-stands s registers from W8 x wide small = absurd wide
any-number-stands s registers from W16 x wide small = absurd wide
any-number-stands s registers from W32 x wide small = extended-half from x small
any-number-stands s registers from W64 x wide small = tt

pub narrows-stand : NarrowsStand
narrows-stand s registers x from to true m narrow wide h = any-number-stands s registers from to (low from m) wide (low-narrow from m narrow)
narrows-stand s registers x from to false m narrow wide h = low-bits-stand s registers x from m h

const-or-below-valid : (b : List ℕ) (i : ℕ) (x : Value) → IsBounds b → i ≤ 32 → 2 ^ i ≤ 2 ^ 32 → IsValid b (const_or_below (2 ^ i) x)
const-or-below-valid b i (Const c) bounds small most = let positive = bounds.positive (2 ^ i) (bounds.powers i (omega arith)) in (omega arith, tt)
const-or-below-valid b i _ bounds small most = ((bounds.positive (2 ^ i) (bounds.powers i (omega arith)), inl most), bounds.powers i (omega arith))

low-bits-valid : (b : List ℕ) (x : Value) (w : Width) → IsBounds b → IsValid b x → IsValid b (low_bits w x)
low-bits-valid b x W8 bounds h = const-or-below-valid b 8 x bounds (omega arith) (omega arith)
low-bits-valid b x W16 bounds h = const-or-below-valid b 16 x bounds (omega arith) (omega arith)
low-bits-valid b x W32 bounds h = low-valid b x bounds h
low-bits-valid b x W64 bounds h = h

any-number-valid : (b : List ℕ) (w : Width) → IsBounds b → IsValid b (any_number w)
any-number-valid b W8 bounds = (tt, tt)
any-number-valid b W16 bounds = (tt, tt)
any-number-valid b W32 bounds = ((omega arith, inl (omega arith)), bounds.powers 32 (omega arith))
any-number-valid b W64 bounds = (tt, tt)

pub narrows-valid : NarrowsAreValid
narrows-valid b x from to true bounds h = any-number-valid b to bounds
narrows-valid b x from to false bounds h = low-bits-valid b x from bounds h
