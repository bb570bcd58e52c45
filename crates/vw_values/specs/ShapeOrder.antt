-- The order of values is that of their shapes.
use Rattle.std.proofs.Common.{◌≡◌, ℕ, ◌-◌, ◌/◌, ◌^◌, ◌≤◌, inl, inr, Option, Some, None, refl, ap, arith, min}
use Rattle.std.proofs.lemmas.Bool.Decides.{nat_tests}
use Rattle.vw_values.specs.declared.value.Value.{Value}
use Rattle.vw_values.specs.declared.value.Value.TheVariants.{Any, Num, Const, Below, Low, Both, HeapBase, HeapAddr, Globals, Entry, Image, Index16, EntryPtr, EntryTyped, TagOf, TableFn, JumpOff, JumpDest}
use Rattle.vw_values.specs.declared.value.Via.{Via}
use Rattle.vw_values.specs.declared.shape.Family.TheVariants as fam
use Rattle.vw_values.specs.Values.{IsValue, IsNumber, value_below, under_below, under_low, under_both, under_heap, under_index, under_pointer, under_jump_off, under_jump_dest, mark_below}
use Rattle.vw_values.specs.Shapes.{shape_of, IsUnder, value_of}

abbrev pub second : Option (ℕ × ℕ) → ℕ
second None = 0
second (Some mark) = mark.1

pub shape-again : (v : Value) → IsValue v → value_of (shape_of v) ≡ v
shape-again (Below k) h = grind (arith, nat_tests)
shape-again (Low k) h = grind (arith, nat_tests)
shape-again (Both k) h = grind (arith, nat_tests)
shape-again (Index16 k mark) h = grind (arith, nat_tests)
shape-again (JumpOff a k) h = grind (arith, nat_tests)
shape-again (JumpDest a k) h = grind (arith, nat_tests)
shape-again _ h = refl

-- from the table to shapes
below-shapes : (k : ℕ) (x : Value) → IsValue x → IsValue (Below k) → under_below k x → IsUnder (shape_of x) (shape_of (Below k))
below-shapes k (Const c) hx hk h = inr (refl, omega arith, omega arith, tt)
below-shapes k (Below j) hx hk h = inr (refl, omega arith, omega arith, tt)
below-shapes k (Both j) hx hk h = inr (refl, omega arith, omega arith, tt)
below-shapes k _ hx hk h = absurd h

low-shapes : (k : ℕ) (x : Value) → IsValue x → IsValue (Low k) → under_low k x → IsUnder (shape_of x) (shape_of (Low k))
low-shapes k (Const c) hx hk h = inr (refl, omega arith, omega arith, tt)
low-shapes k (Below j) hx hk h = inr (refl, omega arith, omega arith, tt)
low-shapes k (Both j) hx hk h = inr (refl, omega arith, omega arith, tt)
low-shapes k (Low j) hx hk h = inr (refl, omega arith, omega arith, tt)
low-shapes k _ hx hk h = absurd h

both-shapes : (k : ℕ) (x : Value) → IsValue x → IsValue (Both k) → under_both k x → IsUnder (shape_of x) (shape_of (Both k))
both-shapes k (Const c) hx hk h = inr (refl, omega arith, omega arith, tt)
both-shapes k (Below j) hx hk h = inr (refl, omega arith, omega arith, tt)
both-shapes k (Both j) hx hk h = inr (refl, omega arith, omega arith, tt)
both-shapes k _ hx hk h = absurd h

num-shapes : (x : Value) → IsValue x → IsNumber x → IsUnder (shape_of x) (shape_of Num)
num-shapes Num hx h = inr (refl, omega arith, omega arith, tt)
num-shapes (Const c) hx h = inr (refl, omega arith, omega arith, tt)
num-shapes (Below j) hx h = inr (refl, omega arith, omega arith, tt)
num-shapes (Low j) hx h = inr (refl, omega arith, omega arith, tt)
num-shapes (Both j) hx h = inr (refl, omega arith, omega arith, tt)
num-shapes _ hx h = absurd h

heap-shapes : (x : Value) → under_heap x → IsUnder (shape_of x) (shape_of HeapAddr)
heap-shapes HeapBase h = inr (refl, omega arith, omega arith, tt)
heap-shapes HeapAddr h = inr (refl, omega arith, omega arith, tt)
heap-shapes _ h = absurd h

index-shapes : (k : ℕ) (m : Option (ℕ × ℕ)) (x : Value) → under_index k m x → IsUnder (shape_of x) (shape_of (Index16 k m))
index-shapes k m (Index16 j n) h = inr (refl, omega arith, h.0, h.1)
index-shapes k m _ h = absurd h

pointer-shapes : (t : ℕ) (x : Value) → under_pointer t x → IsUnder (shape_of x) (shape_of (EntryPtr t))
pointer-shapes t (EntryPtr u) h = inr (ap fam.Pointer h, omega arith, omega arith, tt)
pointer-shapes t (EntryTyped u g) h = inr (ap fam.Pointer h, omega arith, omega arith, tt)
pointer-shapes t _ h = absurd h

off-shapes : (a k : ℕ) (x : Value) → under_jump_off a k x → IsUnder (shape_of x) (shape_of (JumpOff a k))
off-shapes a k (JumpOff b j) h = inr (ap fam.JumpOff h.0, omega arith, h.1, tt)
off-shapes a k _ h = absurd h

dest-shapes : (a k : ℕ) (x : Value) → under_jump_dest a k x → IsUnder (shape_of x) (shape_of (JumpDest a k))
dest-shapes a k (JumpDest b j) h = inr (ap fam.JumpDest h.0, omega arith, h.1, tt)
dest-shapes a k _ h = absurd h

pub mark-reflexive : (m : Option (ℕ × ℕ)) → mark_below m m
mark-reflexive None = tt
mark-reflexive (Some m) = refl

same-shapes : (x y : Value) → x ≡ y → IsUnder (shape_of x) (shape_of y)
same-shapes x y e = inr (ap (λ v. (shape_of v).family) e, rw e (omega arith), rw e (omega arith), rw e (mark-reflexive (shape_of y).mark))

pub to-shapes : (x y : Value) → IsValue x → IsValue y → value_below x y → IsUnder (shape_of x) (shape_of y)
to-shapes x Any hx hy h = inl refl
to-shapes x Num hx hy h = num-shapes x hx h
to-shapes x (Below k) hx hy h = below-shapes k x hx hy h
to-shapes x (Low k) hx hy h = low-shapes k x hx hy h
to-shapes x (Both k) hx hy h = both-shapes k x hx hy h
to-shapes x HeapAddr hx hy h = heap-shapes x h
to-shapes x (Index16 k m) hx hy h = index-shapes k m x h
to-shapes x (EntryPtr t) hx hy h = pointer-shapes t x h
to-shapes x (JumpOff a k) hx hy h = off-shapes a k x h
to-shapes x (JumpDest a k) hx hy h = dest-shapes a k x h
to-shapes x _ hx hy h = same-shapes x _ h

-- from shapes to the table: one family alone has each kind
below-told : (k : ℕ) (x : Value) → IsValue x → IsValue (Below k) → (shape_of x).family ≡ fam.Number → (shape_of x).high ≤ (k - 1) / 2 ^ 32 → (shape_of x).low ≤ min k (2 ^ 32) → under_below k x
below-told k (Const c) hx hk f high low = omega arith
below-told k (Below j) hx hk f high low = omega arith
below-told k (Both j) hx hk f high low = omega arith
below-told k (Low j) hx hk f high low = omega arith
below-told k Num hx hk f high low = omega arith
below-told k _ hx hk f high low = cc

low-told : (k : ℕ) (x : Value) → IsValue x → IsValue (Low k) → (shape_of x).family ≡ fam.Number → (shape_of x).low ≤ k → under_low k x
low-told k (Const c) hx hk f low = omega arith
low-told k (Below j) hx hk f low = omega arith
low-told k (Both j) hx hk f low = omega arith
low-told k (Low j) hx hk f low = omega arith
low-told k Num hx hk f low = omega arith
low-told k _ hx hk f low = cc

both-told : (k : ℕ) (x : Value) → IsValue x → IsValue (Both k) → (shape_of x).family ≡ fam.Number → (shape_of x).high ≤ 1 → (shape_of x).low ≤ k → under_both k x
both-told k (Const c) hx hk f high low = (omega arith, omega arith)
both-told k (Below j) hx hk f high low = omega arith
both-told k (Both j) hx hk f high low = omega arith
both-told k (Low j) hx hk f high low = omega arith
both-told k Num hx hk f high low = omega arith
both-told k _ hx hk f high low = cc

pub num-told : (x : Value) → (shape_of x).family ≡ fam.Number → IsNumber x
num-told Num f = tt
num-told (Const c) f = tt
num-told (Below k) f = tt
num-told (Low k) f = tt
num-told (Both k) f = tt
num-told _ f = cc

pub const-told : (c : ℕ) (x : Value) → (shape_of x).family ≡ fam.Number → (shape_of x).mark ≡ Some (0, c) → x ≡ Const c
const-told c (Const d) f m = ap Const (ap second m)
const-told c Num f m = cc
const-told c (Below j) f m = cc
const-told c (Low j) f m = cc
const-told c (Both j) f m = cc
const-told c _ f m = cc

heap-told : (x : Value) → (shape_of x).family ≡ fam.Heap → under_heap x
heap-told HeapBase f = tt
heap-told HeapAddr f = tt
heap-told _ f = cc

base-told : (x : Value) → (shape_of x).family ≡ fam.Heap → (shape_of x).low ≤ 1 → x ≡ HeapBase
base-told HeapBase f low = refl
base-told HeapAddr f low = absurd (omega arith)
base-told _ f low = cc

index-told : (k : ℕ) (m : Option (ℕ × ℕ)) (x : Value) → (shape_of x).family ≡ fam.Index → (shape_of x).low ≤ k → mark_below (shape_of x).mark m → under_index k m x
index-told k m (Index16 j n) f low mark = (low, mark)
index-told k m _ f low mark = cc

pointer-told : (t : ℕ) (x : Value) → (shape_of x).family ≡ fam.Pointer t → under_pointer t x
pointer-told t (EntryPtr u) f = cc
pointer-told t (EntryTyped u g) f = cc
pointer-told t _ f = cc

typed-told : (t g : ℕ) (x : Value) → (shape_of x).family ≡ fam.Pointer t → (shape_of x).mark ≡ Some (t, g) → x ≡ EntryTyped t g
typed-told t g (EntryPtr u) f m = cc
typed-told t g (EntryTyped u h) f m = let e : h ≡ g = ap second m in cc
typed-told t g _ f m = cc

off-told : (a k : ℕ) (x : Value) → (shape_of x).family ≡ fam.JumpOff a → (shape_of x).low ≤ k → under_jump_off a k x
off-told a k (JumpOff b j) f low = (cc, low)
off-told a k _ f low = cc

dest-told : (a k : ℕ) (x : Value) → (shape_of x).family ≡ fam.JumpDest a → (shape_of x).low ≤ k → under_jump_dest a k x
dest-told a k (JumpDest b j) f low = (cc, low)
dest-told a k _ f low = cc

pub any-told : (x : Value) → (shape_of x).family ≡ fam.Any → x ≡ Any
any-told Any f = refl
any-told _ f = cc

globals-told : (x : Value) → (shape_of x).family ≡ fam.Globals → x ≡ Globals
globals-told Globals f = refl
globals-told _ f = cc

entry-told : (r : ℕ) (x : Value) → (shape_of x).family ≡ fam.Entry r → x ≡ Entry r
entry-told r (Entry q) f = cc
entry-told r _ f = cc

image-told : (a : ℕ) (x : Value) → (shape_of x).family ≡ fam.Image a → x ≡ Image a
image-told a (Image b) f = cc
image-told a _ f = cc

tag-told : (t : ℕ) (via : Via) (x : Value) → (shape_of x).family ≡ fam.TagOf t via → x ≡ TagOf t via
tag-told t via (TagOf u other) f = cc
tag-told t via _ f = cc

fn-told : (t g : ℕ) (x : Value) → (shape_of x).family ≡ fam.TableFn t g → x ≡ TableFn t g
fn-told t g (TableFn u h) f = cc
fn-told t g _ f = cc

any-above : (x y : Value) → (shape_of y).family ≡ fam.Any → value_below x y
any-above x Any f = tt
any-above x _ f = cc

family-above : (x y : Value) → IsValue x → IsValue y → (shape_of x).family ≡ (shape_of y).family → (shape_of x).high ≤ (shape_of y).high → (shape_of x).low ≤ (shape_of y).low → mark_below (shape_of x).mark (shape_of y).mark → value_below x y
family-above x Any hx hy f high low mark = tt
family-above x Num hx hy f high low mark = num-told x f
family-above x (Const c) hx hy f high low mark = const-told c x f mark
family-above x (Below k) hx hy f high low mark = below-told k x hx hy f high low
family-above x (Low k) hx hy f high low mark = low-told k x hx hy f low
family-above x (Both k) hx hy f high low mark = both-told k x hx hy f high low
family-above x HeapBase hx hy f high low mark = base-told x f low
family-above x HeapAddr hx hy f high low mark = heap-told x f
family-above x Globals hx hy f high low mark = globals-told x f
family-above x (Entry r) hx hy f high low mark = entry-told r x f
family-above x (Image a) hx hy f high low mark = image-told a x f
family-above x (Index16 k m) hx hy f high low mark = index-told k m x f low mark
family-above x (EntryPtr t) hx hy f high low mark = pointer-told t x f
family-above x (EntryTyped t g) hx hy f high low mark = typed-told t g x f mark
family-above x (TagOf t via) hx hy f high low mark = tag-told t via x f
family-above x (TableFn t g) hx hy f high low mark = fn-told t g x f
family-above x (JumpOff a k) hx hy f high low mark = off-told a k x f low
family-above x (JumpDest a k) hx hy f high low mark = dest-told a k x f low

pub from-shapes : (x y : Value) → IsValue x → IsValue y → IsUnder (shape_of x) (shape_of y) → value_below x y
from-shapes x y hx hy h = elim h [ inl any ↦ any-above x y any | inr p ↦ family-above x y hx hy p.0 p.1 p.2 p.3 ]
