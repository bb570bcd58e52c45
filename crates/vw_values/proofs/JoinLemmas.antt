-- Joins of values are joins of their shapes, raised to the bounds.
use Rattle.std.proofs.Common.{◌≡◌, ◌≢◌, ℕ, ◌-◌, ◌^◌, ◌<◌, ◌≤◌, ◌⊎◌, inl, inr, Option, Some, None, List, ◌∷◌, refl, sym, ap, subst, ◌∙◌, arith, max, nat_le, nat_lt, ◌==◌, ◌&&◌, Bool, true, false, if◌then◌else◌}
use Rattle.std.proofs.lemmas.Bool.Decides.{nat_tests}
use Rattle.vw_values.specs.Bounds.{IsMember, IsBounds, IsLeastFrom, first_from}
use Rattle.vw_values.specs.declared.value.Value.{Value}
use Rattle.vw_values.specs.declared.value.Value.TheVariants.{Any, Num, Const, Below, Low, Both, HeapBase, HeapAddr, Globals, Entry, Image, Index16, EntryPtr, EntryTyped, TagOf, TableFn, JumpOff, JumpDest}
use Rattle.vw_values.specs.declared.value.Via.{Via}
use Rattle.vw_values.specs.declared.value.Via.TheVariants.{At, Idx}
use Rattle.vw_values.specs.declared.shape.Family.{Family}
use Rattle.vw_values.specs.declared.shape.Family.TheVariants as fam
use Rattle.vw_values.specs.declared.shape.Shape.{Shape}
use Rattle.vw_values.specs.Values.{IsValue, IsTable, IsTag, IsMark, IsVia, IsCount, value_below, mark_below, IsValid}
use Rattle.vw_values.specs.Shapes.{shape_of, value_of, value_in, number_of, value_of_count, exact_or, typed_or}
use Rattle.vw_lattice.specs.Order.{IsJoin}
use Rattle.vw_values.specs.Joins.{join, joined_shapes, value_up_to, same_family, same_via, shared_mark}
use Rattle.vw_values.specs.ShapeOrder.{to-shapes, from-shapes, const-told, mark-reflexive}
use Rattle.vw_values.specs.ValueOrder.{value-reflexive}
use Rattle.vw_values.specs.RankFalls.{IsLevelled, levels}
use Rattle.vw_values.proofs.UpLemmas.{first-none, first-is-up, up-member}

-- the parts that shapes of values have, by family
abbrev IsFamily : Family → Type 0
IsFamily (fam.Entry r) = r < 16
IsFamily (fam.Image a) = a < 2 ^ 64
IsFamily (fam.Pointer t) = IsTable t
IsFamily (fam.TagOf t via) = IsTable t × IsVia via
IsFamily (fam.TableFn t g) = IsTable t × IsTag g
IsFamily (fam.JumpOff a) = a < 2 ^ 64
IsFamily (fam.JumpDest a) = a < 2 ^ 64
IsFamily _ = Unit {0}

abbrev IsLow : Family → ℕ → Type 0
IsLow fam.Number low = (1 ≤ low) × (low ≤ 2 ^ 32)
IsLow fam.Heap low = (low ≡ 1) ⊎ (low ≡ 2 ^ 32)
IsLow fam.Index low = IsCount low
IsLow (fam.JumpOff a) low = IsCount low
IsLow (fam.JumpDest a) low = IsCount low
IsLow _ low = low ≡ 1

abbrev IsHigh : Family → ℕ → Type 0
IsHigh fam.Number high = high ≤ 2 ^ 32 - 1
IsHigh _ high = high ≡ 0

abbrev IsNumberMark : Option (ℕ × ℕ) → Type 0
IsNumberMark None = Unit {0}
IsNumberMark (Some mark) = mark.1 < 2 ^ 64

abbrev IsPointerMark : ℕ → Option (ℕ × ℕ) → Type 0
IsPointerMark t None = Unit {0}
IsPointerMark t (Some mark) = (mark.0 ≡ t) × IsTag mark.1

abbrev HasMarkOf : Family → Option (ℕ × ℕ) → Type 0
HasMarkOf fam.Number mark = IsNumberMark mark
HasMarkOf fam.Index mark = IsMark mark
HasMarkOf (fam.Pointer t) mark = IsPointerMark t mark
HasMarkOf _ mark = mark ≡ None

record InShape (s : Shape) : Type 0 where
  family : IsFamily s.family
  low : IsLow s.family s.low
  high : IsHigh s.family s.high
  mark : HasMarkOf s.family s.mark

in-shape : (v : Value) → IsValue v → InShape (shape_of v)
in-shape Any h = record { family = tt; low = refl; high = refl; mark = refl }
in-shape Num h = record { family = tt; low = (omega arith, omega arith); high = omega arith; mark = tt }
in-shape (Const c) h = record { family = tt; low = (omega arith, omega arith); high = omega arith; mark = h }
in-shape (Below k) h = record { family = tt; low = (omega arith, omega arith); high = omega arith; mark = tt }
in-shape (Low k) h = record { family = tt; low = (omega arith, omega arith); high = omega arith; mark = tt }
in-shape (Both k) h = record { family = tt; low = (omega arith, omega arith); high = omega arith; mark = tt }
in-shape HeapBase h = record { family = tt; low = inl refl; high = refl; mark = refl }
in-shape HeapAddr h = record { family = tt; low = inr refl; high = refl; mark = refl }
in-shape Globals h = record { family = tt; low = refl; high = refl; mark = refl }
in-shape (Entry r) h = record { family = h; low = refl; high = refl; mark = refl }
in-shape (Image a) h = record { family = h; low = refl; high = refl; mark = refl }
in-shape (Index16 k m) h = record { family = tt; low = h.0; high = refl; mark = h.1 }
in-shape (EntryPtr t) h = record { family = h; low = refl; high = refl; mark = tt }
in-shape (EntryTyped t g) h = record { family = h.0; low = refl; high = refl; mark = (refl, h.1) }
in-shape (TagOf t via) h = record { family = h; low = refl; high = refl; mark = refl }
in-shape (TableFn t g) h = record { family = h; low = refl; high = refl; mark = refl }
in-shape (JumpOff a k) h = record { family = h.0; low = h.1; high = refl; mark = refl }
in-shape (JumpDest a k) h = record { family = h.0; low = h.1; high = refl; mark = refl }

lows-max : (f : Family) (l m : ℕ) → IsLow f l → IsLow f m → IsLow f (max l m)
lows-max fam.Number l m h g = (omega arith, omega arith)
lows-max fam.Heap l m h g = grind arith
lows-max fam.Index l m h g = (omega arith, omega arith)
lows-max (fam.JumpOff a) l m h g = (omega arith, omega arith)
lows-max (fam.JumpDest a) l m h g = (omega arith, omega arith)
lows-max _ l m h g = omega arith

highs-max : (f : Family) (l m : ℕ) → IsHigh f l → IsHigh f m → IsHigh f (max l m)
highs-max fam.Number l m h g = omega arith
highs-max _ l m h g = omega arith

-- by the cases of a test
pub by-le : (P : Value → Type 0) (a k : ℕ) (x y : Value) → (a ≤ k → P x) → (k < a → P y) → P (if nat_le a k then x else y)
by-le P a k x y f g = go (nat_le a k) refl
  where
    go : (test : Bool) → nat_le a k ≡ test → P (if test then x else y)
    go true e = f (grind (arith, nat_tests))
    go false e = g (grind (arith, nat_tests))

pub by-lt : (P : Value → Type 0) (a k : ℕ) (x y : Value) → (a < k → P x) → (k ≤ a → P y) → P (if nat_lt a k then x else y)
by-lt P a k x y f g = go (nat_lt a k) refl
  where
    go : (test : Bool) → nat_lt a k ≡ test → P (if test then x else y)
    go true e = f (grind (arith, nat_tests))
    go false e = g (grind (arith, nat_tests))

pub by-bounded : (P : Value → Type 0) (high low : ℕ) → (high ≡ 0 → P (Below low)) → (high ≡ 1 → low < 2 ^ 32 → P (Both low)) → (high ≡ 1 → 2 ^ 32 ≤ low → P (Below (2 ^ 33))) → (2 ≤ high → low < 2 ^ 32 → P (Low low)) → (2 ≤ high → 2 ^ 32 ≤ low → P Num) → P (number_of high low)
by-bounded P high low f g h i j =
    by-le P high 0 (Below low) _ (λ zero. f (omega arith)) (λ more.
    by-le P high 1 (if nat_lt low (2 ^ 32) then Both low else Below (2 ^ 33)) _
    (λ one. by-lt P low (2 ^ 32) (Both low) (Below (2 ^ 33)) (λ less. g (omega arith) less) (λ most. h (omega arith) most))
    (λ two. by-lt P low (2 ^ 32) (Low low) Num (λ less. i (omega arith) less) (λ most. j (omega arith) most)))

by-counted : (P : Value → Type 0) (k : ℕ) (v : Value) → (k ≤ 65536 → P v) → P Any → P (value_of_count k v)
by-counted P k v f g = by-le P k 65536 v Any f (λ _. g)

-- a value of a family, with a listed bound, is valid
bounded-valid : (b : List ℕ) (high low : ℕ) → IsBounds b → IsMember b low → IsValid b (number_of high low)
bounded-valid b high low bounds within =
    let positive : 1 ≤ low = bounds.positive low within in
    by-bounded (IsValid b) high low
    (λ zero. ((positive, bounds.range low within), within))
    (λ one less. ((positive, less), within))
    (λ one most. ((omega arith, inr refl), bounds.powers 33 (omega arith)))
    (λ two less. ((positive, less), within))
    (λ two most. (tt, tt))

exact-valid : (b : List ℕ) (high low : ℕ) (mark : Option (ℕ × ℕ)) → IsBounds b → IsMember b low → IsNumberMark mark → IsValid b (exact_or mark (number_of high low))
exact-valid b high low None bounds within mark = bounded-valid b high low bounds within
exact-valid b high low (Some m) bounds within mark = (mark, tt)

typed-valid : (b : List ℕ) (t : ℕ) (mark : Option (ℕ × ℕ)) → IsTable t → IsPointerMark t mark → IsValid b (typed_or t mark)
typed-valid b t None table mark = (table, tt)
typed-valid b t (Some m) table mark = ((table, mark.1), tt)

family-valid : (b : List ℕ) (f : Family) (high low : ℕ) (mark : Option (ℕ × ℕ)) → IsBounds b → IsMember b low → IsFamily f → HasMarkOf f mark → IsValid b (value_in f high low mark)
family-valid b fam.Any high low mark bounds within family marked = (tt, tt)
family-valid b fam.Number high low mark bounds within family marked = exact-valid b high low mark bounds within marked
family-valid b fam.Heap high low mark bounds within family marked = by-le (IsValid b) low 1 HeapBase HeapAddr (λ _. (tt, tt)) (λ _. (tt, tt))
family-valid b fam.Globals high low mark bounds within family marked = (tt, tt)
family-valid b (fam.Entry r) high low mark bounds within family marked = (family, tt)
family-valid b (fam.Image a) high low mark bounds within family marked = (family, tt)
family-valid b fam.Index high low mark bounds within family marked = by-counted (IsValid b) low (Index16 low mark) (λ few. (((bounds.positive low within, few), marked), within)) (tt, tt)
family-valid b (fam.Pointer t) high low mark bounds within family marked = typed-valid b t mark family marked
family-valid b (fam.TagOf t via) high low mark bounds within family marked = (family, tt)
family-valid b (fam.TableFn t g) high low mark bounds within family marked = (family, tt)
family-valid b (fam.JumpOff a) high low mark bounds within family marked = by-counted (IsValid b) low (JumpOff a low) (λ few. ((family, (bounds.positive low within, few)), within)) (tt, tt)
family-valid b (fam.JumpDest a) high low mark bounds within family marked = by-counted (IsValid b) low (JumpDest a low) (λ few. ((family, (bounds.positive low within, few)), within)) (tt, tt)

abbrev pub IsStep : ℕ → Type 0
IsStep high = (high ≡ 0) ⊎ ((high ≡ 1) ⊎ (high ≡ 2 ^ 32 - 1))

-- the shape of the value that a shape is given: as it was, but that the bound of the high half is
-- raised to the next of the three
pub record IsRaised (f : Family) (high low : ℕ) (mark : Option (ℕ × ℕ)) (v : Value) : Type 0 where
  pub family : (shape_of v).family ≡ f
  pub low' : (shape_of v).low ≡ low
  pub mark' : (shape_of v).mark ≡ mark
  pub above : high ≤ (shape_of v).high
  pub least : (k : ℕ) → IsStep k → high ≤ k → (shape_of v).high ≤ k

pub bounded-raised : (high low : ℕ) → high ≤ 2 ^ 32 - 1 → 1 ≤ low → low ≤ 2 ^ 32 → IsRaised fam.Number high low None (number_of high low)
bounded-raised high low most positive range =
    by-bounded (IsRaised fam.Number high low None) high low
    (λ zero. record { family = refl; low' = omega arith; mark' = refl; above = omega arith; least = λ k step h. omega arith })
    (λ one less. record { family = refl; low' = refl; mark' = refl; above = omega arith; least = λ k step h. omega arith })
    (λ one full. record { family = refl; low' = omega arith; mark' = refl; above = omega arith; least = λ k step h. omega arith })
    (λ two less. record { family = refl; low' = refl; mark' = refl; above = omega arith; least = λ k step h. top k step h two })
    (λ two full. record { family = refl; low' = omega arith; mark' = refl; above = omega arith; least = λ k step h. top k step h two })
  where
    top : (k : ℕ) → IsStep k → high ≤ k → 2 ≤ high → 2 ^ 32 - 1 ≤ k
    top k step h two = grind arith

exact-raised : (high low : ℕ) (mark : Option (ℕ × ℕ)) → high ≤ 2 ^ 32 - 1 → 1 ≤ low → low ≤ 2 ^ 32 → mark ≡ None → IsRaised fam.Number high low mark (exact_or mark (number_of high low))
exact-raised high low None most positive range none = bounded-raised high low most positive range
exact-raised high low (Some m) most positive range none = cc

typed-raised : (t high low : ℕ) (mark : Option (ℕ × ℕ)) → high ≡ 0 → low ≡ 1 → IsPointerMark t mark → IsRaised (fam.Pointer t) high low mark (typed_or t mark)
typed-raised t high low None zero one marked = record { family = refl; low' = sym one; mark' = refl; above = omega arith; least = λ k step h. omega arith }
typed-raised t high low (Some m) zero one marked = record { family = refl; low' = sym one; mark' = ap (λ u. Some (u, m.1)) (sym marked.0); above = omega arith; least = λ k step h. omega arith }

heap-raised : (high low : ℕ) (mark : Option (ℕ × ℕ)) → high ≡ 0 → (low ≡ 1) ⊎ (low ≡ 2 ^ 32) → mark ≡ None → IsRaised fam.Heap high low mark (if nat_le low 1 then HeapBase else HeapAddr)
heap-raised high low mark zero range none =
    by-le (IsRaised fam.Heap high low mark) low 1 HeapBase HeapAddr
    (λ most. record { family = refl; low' = elim range [ inl one ↦ sym one | inr whole ↦ absurd (omega arith) ]; mark' = sym none; above = omega arith; least = λ k step h. omega arith })
    (λ more. record { family = refl; low' = elim range [ inl one ↦ absurd (omega arith) | inr whole ↦ sym whole ]; mark' = sym none; above = omega arith; least = λ k step h. omega arith })

-- a family without bounds
one-raised : (v : Value) (high low : ℕ) (mark : Option (ℕ × ℕ)) → (shape_of v).high ≡ 0 → (shape_of v).low ≡ 1 → (shape_of v).mark ≡ None → high ≡ 0 → low ≡ 1 → mark ≡ None → IsRaised (shape_of v).family high low mark v
one-raised v high low mark h l m zero one none = record { family = refl; low' = l ∙ sym one; mark' = m ∙ sym none; above = omega arith; least = λ k step g. omega arith }

counted-raised : (f : Family) (high low : ℕ) (mark : Option (ℕ × ℕ)) (v : Value) → low ≤ 65536 → IsRaised f high low mark v → IsRaised f high low mark (value_of_count low v)
counted-raised f high low mark v few raised = by-le (IsRaised f high low mark) low 65536 v Any (λ _. raised) (λ more. absurd (omega arith))

family-raised : (f : Family) (high low : ℕ) (mark : Option (ℕ × ℕ)) → IsHigh f high → IsLow f low → HasMarkOf f mark → (f ≡ fam.Number → mark ≡ None) → IsRaised f high low mark (value_in f high low mark)
family-raised fam.Any high low mark h l m none = one-raised Any high low mark refl refl refl h l m
family-raised fam.Number high low mark h l m none = exact-raised high low mark h l.0 l.1 (none refl)
family-raised fam.Heap high low mark h l m none = heap-raised high low mark h l m
family-raised fam.Globals high low mark h l m none = one-raised Globals high low mark refl refl refl h l m
family-raised (fam.Entry r) high low mark h l m none = one-raised (Entry r) high low mark refl refl refl h l m
family-raised (fam.Image a) high low mark h l m none = one-raised (Image a) high low mark refl refl refl h l m
family-raised fam.Index high low mark h l m none = counted-raised fam.Index high low mark (Index16 low mark) l.1 record { family = refl; low' = refl; mark' = refl; above = omega arith; least = λ k step g. omega arith }
family-raised (fam.Pointer t) high low mark h l m none = typed-raised t high low mark h l m
family-raised (fam.TagOf t via) high low mark h l m none = one-raised (TagOf t via) high low mark refl refl refl h l m
family-raised (fam.TableFn t g) high low mark h l m none = one-raised (TableFn t g) high low mark refl refl refl h l m
family-raised (fam.JumpOff a) high low mark h l m none = counted-raised (fam.JumpOff a) high low mark (JumpOff a low) l.1 record { family = refl; low' = refl; mark' = sym m; above = omega arith; least = λ k step g. omega arith }
family-raised (fam.JumpDest a) high low mark h l m none = counted-raised (fam.JumpDest a) high low mark (JumpDest a low) l.1 record { family = refl; low' = refl; mark' = sym m; above = omega arith; least = λ k step g. omega arith }

-- ---- the definition's tests

nat-same : (m n : ℕ) → (m == n) ≡ true → m ≡ n
nat-same m n e = grind (arith, nat_tests)

same-nat : (n : ℕ) → (n == n) ≡ true
same-nat n = grind (arith, nat_tests)

-- both tests of a pair of them
both-told : (a b : Bool) → (a && b) ≡ true → (a ≡ true) × (b ≡ true)
both-told true b e = (refl, e)
both-told false b e = cc

told-both : (a b : Bool) → a ≡ true → b ≡ true → (a && b) ≡ true
told-both true b e f = f
told-both false b e f = cc

via-told : (v w : Via) → same_via v w ≡ true → v ≡ w
via-told (At r) (At q) e = ap At (nat-same r q e)
via-told (At r) (Idx q) e = cc
via-told (Idx r) (At q) e = cc
via-told (Idx r) (Idx q) e = ap Idx (nat-same r q e)

via-same : (v : Via) → same_via v v ≡ true
via-same (At r) = same-nat r
via-same (Idx r) = same-nat r

tag-same : (t u : ℕ) (v w : Via) → (t ≡ u) → (v ≡ w) → fam.TagOf t v ≡ fam.TagOf u w
tag-same t u v w e f = cc

fn-same : (t u g h : ℕ) → (t ≡ u) → (g ≡ h) → fam.TableFn t g ≡ fam.TableFn u h
fn-same t u g h e f = cc

family-told : (f g : Family) → same_family f g ≡ true → f ≡ g
family-told fam.Any fam.Any e = refl
family-told fam.Number fam.Number e = refl
family-told fam.Heap fam.Heap e = refl
family-told fam.Globals fam.Globals e = refl
family-told (fam.Entry r) (fam.Entry q) e = ap fam.Entry (nat-same r q e)
family-told (fam.Image a) (fam.Image b) e = ap fam.Image (nat-same a b e)
family-told fam.Index fam.Index e = refl
family-told (fam.Pointer t) (fam.Pointer u) e = ap fam.Pointer (nat-same t u e)
family-told (fam.TagOf t v) (fam.TagOf u w) e = let p = both-told (t == u) (same_via v w) e in tag-same t u v w (nat-same t u p.0) (via-told v w p.1)
family-told (fam.TableFn t g) (fam.TableFn u h) e = let p = both-told (t == u) (g == h) e in fn-same t u g h (nat-same t u p.0) (nat-same g h p.1)
family-told (fam.JumpOff a) (fam.JumpOff b) e = ap fam.JumpOff (nat-same a b e)
family-told (fam.JumpDest a) (fam.JumpDest b) e = ap fam.JumpDest (nat-same a b e)
family-told _ _ e = cc

family-same : (f : Family) → same_family f f ≡ true
family-same fam.Any = refl
family-same fam.Number = refl
family-same fam.Heap = refl
family-same fam.Globals = refl
family-same (fam.Entry r) = same-nat r
family-same (fam.Image a) = same-nat a
family-same fam.Index = refl
family-same (fam.Pointer t) = same-nat t
family-same (fam.TagOf t v) = told-both (t == t) (same_via v v) (same-nat t) (via-same v)
family-same (fam.TableFn t g) = told-both (t == t) (g == g) (same-nat t) (same-nat g)
family-same (fam.JumpOff a) = same-nat a
family-same (fam.JumpDest a) = same-nat a

-- the mark that both have, where both have one
abbrev IsShared : Option (ℕ × ℕ) → Option (ℕ × ℕ) → Option (ℕ × ℕ) → Type 0
IsShared m n shared = ((m ≡ n) × (shared ≡ m)) ⊎ ((m ≢ n) × (shared ≡ None))

pair-same : (m n : ℕ × ℕ) → m.0 ≡ n.0 → m.1 ≡ n.1 → m ≡ n
pair-same m n e f = subst (λ k. m ≡ (k, n.1)) e (subst (λ k. m ≡ (m.0, k)) f refl)

mark-zero : (m n : ℕ × ℕ) → ◌≡◌ {A = Option (ℕ × ℕ)} (Some m) (Some n) → m ≡ n
mark-zero m n e = cc

marks-shared : (m n : Option (ℕ × ℕ)) → IsShared m n (shared_mark m n)
marks-shared None None = inl (refl, refl)
marks-shared None (Some n) = inr (λ e. cc, refl)
marks-shared (Some m) None = inr (λ e. cc, refl)
marks-shared (Some m) (Some n) = go (m.0 == n.0 && m.1 == n.1) refl
  where
    go : (t : Bool) → (m.0 == n.0 && m.1 == n.1) ≡ t → IsShared (Some m) (Some n) (if t then Some m else None)
    go true e = let p = both-told (m.0 == n.0) (m.1 == n.1) e in inl (ap Some (pair-same m n (nat-same m.0 n.0 p.0) (nat-same m.1 n.1 p.1)), refl)
    go false e = inr (λ same. differ (mark-zero m n same), refl)
      where
        differ : m ≡ n → ⊥
        differ same =
            let first : m.0 == n.0 ≡ true = subst (λ (k : ℕ × ℕ). (m.0 == k.0) ≡ true) same (same-nat m.0) in
            let later : m.1 == n.1 ≡ true = subst (λ (k : ℕ × ℕ). (m.1 == k.1) ≡ true) same (same-nat m.1) in
            let both = told-both (m.0 == n.0) (m.1 == n.1) first later in
            cc

-- ---- joins

-- from a first value in its range comes a valid one, and from two such values the least valid one above both
pub record Joins (bounds : List ℕ) (x y joined : Value) : Type 0 where
  pub kept : IsValue x → IsValid bounds joined
  pub least : IsValue x → IsValue y → IsJoin value_below (IsValid bounds) x y joined

joins-const : (b : List ℕ) (c : ℕ) → Joins b (Const c) (Const c) (Const c)
joins-const b c = record {
  kept = λ hx. (hx, tt);
  least = λ hx hy. record { valid = (hx, tt); above_left = refl; above_right = refl; least = λ u hu f g. f };
}

-- only Any is above two values of two families
only-any : (x y u : Value) → IsValue x → IsValue y → IsValue u → ((shape_of x).family ≢ (shape_of y).family) → value_below x u → value_below y u → value_below Any u
only-any x y u hx hy hu apart f g =
    elim (to-shapes x u hx hu f) [
      | inl any ↦ from-shapes Any u tt hu (inl any)
      | inr p ↦ elim (to-shapes y u hy hu g) [ inl any ↦ from-shapes Any u tt hu (inl any) | inr q ↦ absurd (apart (p.0 ∙ sym q.0)) ]
    ]

joins-apart : (b : List ℕ) (x y : Value) → (shape_of x).family ≢ (shape_of y).family → Joins b x y Any
joins-apart b x y apart = record {
  kept = λ hx. (tt, tt);
  least = λ hx hy. record { valid = (tt, tt); above_left = tt; above_right = tt; least = λ u hu f g. only-any x y u hx hy hu.0 apart f g };
}

at-most-whole : (f : Family) (low : ℕ) → IsLow f low → low ≤ 2 ^ 32
at-most-whole fam.Number low h = omega arith
at-most-whole fam.Heap low h = grind arith
at-most-whole fam.Index low h = omega arith
at-most-whole (fam.JumpOff a) low h = omega arith
at-most-whole (fam.JumpDest a) low h = omega arith
at-most-whole _ low h = omega arith

-- a bound above all of them is never asked for
joins-none : (b : List ℕ) (x y : Value) → IsBounds b → first_from (max (shape_of x).low (shape_of y).low) b ≡ None → Joins b x y Any
joins-none b x y bounds none = record { kept = λ hx. (tt, tt); least = λ hx hy. absurd (too-large (in-shape x hx) (in-shape y hy)) }
  where
    too-large : InShape (shape_of x) → InShape (shape_of y) → ⊥
    too-large left right =
        let l : (shape_of x).low ≤ 2 ^ 32 = at-most-whole (shape_of x).family (shape_of x).low left.low in
        let r : (shape_of y).low ≤ 2 ^ 32 = at-most-whole (shape_of y).family (shape_of y).low right.low in
        let less = first-none (max (shape_of x).low (shape_of y).low) b none (2 ^ 33) (bounds.powers 33 (omega arith)) in
        omega arith

none-mark : (f : Family) → HasMarkOf f None
none-mark fam.Number = tt
none-mark fam.Index = tt
none-mark (fam.Pointer t) = tt
none-mark _ = refl

shared-valid : (f : Family) (m n shared : Option (ℕ × ℕ)) → HasMarkOf f m → IsShared m n shared → HasMarkOf f shared
shared-valid f m n shared h is =
    elim is [
      | inl p ↦ subst (λ k. HasMarkOf f k) (sym p.1) h
      | inr q ↦ subst (λ k. HasMarkOf f k) (sym q.1) (none-mark f)
    ]

shared-left : (m n shared : Option (ℕ × ℕ)) → IsShared m n shared → mark_below m shared
shared-left m n shared is =
    elim is [
      | inl p ↦ subst (λ k. mark_below m k) (sym p.1) (mark-reflexive m)
      | inr q ↦ subst (λ k. mark_below m k) (sym q.1) tt
    ]

shared-right : (m n shared : Option (ℕ × ℕ)) → IsShared m n shared → mark_below n shared
shared-right m n shared is =
    elim is [
      | inl p ↦ subst (λ k. mark_below n k) (sym p.0 ∙ sym p.1) (mark-reflexive n)
      | inr q ↦ subst (λ k. mark_below n k) (sym q.1) tt
    ]

none-below : (m n u : Option (ℕ × ℕ)) → m ≢ n → mark_below m u → mark_below n u → mark_below None u
none-below m n None differ f g = tt
none-below m n (Some u) differ f g = absurd (differ (f ∙ sym g))

shared-least : (m n shared u : Option (ℕ × ℕ)) → IsShared m n shared → mark_below m u → mark_below n u → mark_below shared u
shared-least m n shared u is f g =
    elim is [
      | inl p ↦ subst (λ k. mark_below k u) (sym p.1) f
      | inr q ↦ subst (λ k. mark_below k u) (sym q.1) (none-below m n u q.0 f g)
    ]

is-number : (f : Family) → (f ≡ fam.Number) ⊎ (f ≢ fam.Number)
is-number fam.Number = inl refl
is-number _ = inr (λ e. cc)

-- the numbers that every set of bounds has are listed
in-bounds : (b : List ℕ) (k : ℕ) → IsBounds b → IsMember (1 ∷ 2 ^ 32 ∷ b) k → IsMember b k
in-bounds b k bounds within =
    elim within [
      | inl one ↦ subst (λ m. IsMember b m) one (bounds.powers 0 (omega arith))
      | inr more ↦ elim more [ inl whole ↦ subst (λ m. IsMember b m) whole (bounds.powers 32 (omega arith)) | inr there ↦ there ]
    ]

pub max-listed : (b : List ℕ) (l m : ℕ) → IsMember b l → IsMember b m → IsMember b (max l m)
max-listed b l m hl hm = elim (sides l m) [ inl e ↦ subst (λ k. IsMember b k) (sym e) hl | inr e ↦ subst (λ k. IsMember b k) (sym e) hm ]
  where
    sides : (l m : ℕ) → (max l m ≡ l) ⊎ (max l m ≡ m)
    sides l m = grind arith

-- a power of two is its own least bound from below, and what is below one has a bound below it
power-stays : (b : List ℕ) (i low l : ℕ) → IsBounds b → i ≤ 33 → IsLeastFrom b l low → l ≡ 2 ^ i → low ≡ 2 ^ i
power-stays b i low l bounds small up is = up-member l low b up (subst (λ k. IsMember b k) (sym is) (bounds.powers i small)) ∙ is

low-raised : (b : List ℕ) (f : Family) (l low : ℕ) → IsBounds b → IsLeastFrom b l low → IsLow f l → IsLow f low
low-raised b fam.Number l low bounds up range = let most = up.least (2 ^ 32) (bounds.powers 32 (omega arith)) range.1 in let above = up.above in (omega arith, omega arith)
low-raised b fam.Heap l low bounds up range = elim range [ inl one ↦ inl (power-stays b 0 low l bounds (omega arith) up one) | inr whole ↦ inr (power-stays b 32 low l bounds (omega arith) up whole) ]
low-raised b fam.Index l low bounds up range = let most = up.least (2 ^ 16) (bounds.powers 16 (omega arith)) range.1 in let above = up.above in (omega arith, omega arith)
low-raised b (fam.JumpOff a) l low bounds up range = let most = up.least (2 ^ 16) (bounds.powers 16 (omega arith)) range.1 in let above = up.above in (omega arith, omega arith)
low-raised b (fam.JumpDest a) l low bounds up range = let most = up.least (2 ^ 16) (bounds.powers 16 (omega arith)) range.1 in let above = up.above in (omega arith, omega arith)
low-raised b _ l low bounds up range = power-stays b 0 low l bounds (omega arith) up range

-- a number without a mark, or two of one family of which one is no number
module _ (b : List ℕ) (x y : Value) (low : ℕ) (mark : Option (ℕ × ℕ)) (bounds : IsBounds b) (family : (shape_of x).family ≡ (shape_of y).family) (up : IsLeastFrom b (max (shape_of x).low (shape_of y).low) low) (shared : IsShared (shape_of x).mark (shape_of y).mark mark) (unmarked : (shape_of x).family ≡ fam.Number → mark ≡ None) where
  abbrev joined : Value
  joined = value_in (shape_of x).family (max (shape_of x).high (shape_of y).high) low mark

  kept : IsValue x → IsValid b joined
  kept hx =
      let inside = in-shape x hx in
      family-valid b (shape_of x).family (max (shape_of x).high (shape_of y).high) low mark bounds up.member inside.family (shared-valid (shape_of x).family (shape_of x).mark (shape_of y).mark mark inside.mark shared)

  raised : IsValue x → IsValue y → IsRaised (shape_of x).family (max (shape_of x).high (shape_of y).high) low mark joined
  raised hx hy =
      let left = in-shape x hx in
      let right = in-shape y hy in
      let L : Family → Type 0 = λ f. IsLow f (shape_of y).low in
      let H : Family → Type 0 = λ f. IsHigh f (shape_of y).high in
      family-raised (shape_of x).family (max (shape_of x).high (shape_of y).high) low mark
      (highs-max (shape_of x).family (shape_of x).high (shape_of y).high left.high (subst H (sym family) right.high))
      (low-raised b (shape_of x).family (max (shape_of x).low (shape_of y).low) low bounds up (lows-max (shape_of x).family (shape_of x).low (shape_of y).low left.low (subst L (sym family) right.low)))
      (shared-valid (shape_of x).family (shape_of x).mark (shape_of y).mark mark left.mark shared)
      unmarked

  above-left : IsValue x → IsValue y → value_below x joined
  above-left hx hy =
      let r = raised hx hy in
      let most = up.above in
      from-shapes x joined hx (kept hx).0 (inr (sym r.family, below-max (shape_of x).high (shape_of y).high (shape_of joined).high r.above, low-most r.low', subst (λ k. mark_below (shape_of x).mark k) (sym r.mark') (shared-left (shape_of x).mark (shape_of y).mark mark shared)))
    where
      below-max : (h j k : ℕ) → max h j ≤ k → h ≤ k
      below-max h j k most = omega arith

      low-most : {l : ℕ} → l ≡ low → (shape_of x).low ≤ l
      low-most e = let most = up.above in omega arith

  above-right : IsValue x → IsValue y → value_below y joined
  above-right hx hy =
      let r = raised hx hy in
      from-shapes y joined hy (kept hx).0 (inr (sym family ∙ sym r.family, below-max (shape_of x).high (shape_of y).high (shape_of joined).high r.above, low-most r.low', subst (λ k. mark_below (shape_of y).mark k) (sym r.mark') (shared-right (shape_of x).mark (shape_of y).mark mark shared)))
    where
      below-max : (h j k : ℕ) → max h j ≤ k → j ≤ k
      below-max h j k most = omega arith

      low-most : {l : ℕ} → l ≡ low → (shape_of y).low ≤ l
      low-most e = let most = up.above in omega arith

  least-inside : (u : Value) → IsValue x → IsValue y → IsValid b u → IsLevelled b u → (shape_of x).family ≡ (shape_of u).family → (shape_of x).high ≤ (shape_of u).high → (shape_of y).high ≤ (shape_of u).high → (shape_of x).low ≤ (shape_of u).low → (shape_of y).low ≤ (shape_of u).low → mark_below (shape_of x).mark (shape_of u).mark → mark_below (shape_of y).mark (shape_of u).mark → value_below joined u
  least-inside u hx hy hu levelled same hl hr ll lr ml mr =
      let r = raised hx hy in
      let listed = in-bounds b (shape_of u).low bounds levelled.low in
      let most = up.least (shape_of u).low listed (omega arith) in
      let low-most : (shape_of joined).low ≤ (shape_of u).low = rw r.low' most in
      from-shapes joined u (kept hx).0 hu.0 (inr (r.family ∙ same, r.least (shape_of u).high levelled.high (omega arith), low-most, subst (λ k. mark_below k (shape_of u).mark) (sym r.mark') (shared-least (shape_of x).mark (shape_of y).mark mark (shape_of u).mark shared ml mr)))

  -- two numbers without a shared mark are not below one Const
  no-const : (c : ℕ) → value_below x (Const c) → value_below y (Const c) → ⊥
  no-const c f g =
      let left : (shape_of x).mark ≡ Some (0, c) = ap (λ v. (shape_of v).mark) f in
      let right : (shape_of y).mark ≡ Some (0, c) = ap (λ v. (shape_of v).mark) g in
      let none = unmarked (ap (λ v. (shape_of v).family) f) in
      elim shared [ inl p ↦ cc | inr q ↦ q.0 (left ∙ sym right) ]

  least : (u : Value) → IsValue x → IsValue y → IsValid b u → value_below x u → value_below y u → value_below joined u
  least u hx hy hu f g =
      elim (to-shapes x u hx hu.0 f) [
        | inl any ↦ from-shapes joined u (kept hx).0 hu.0 (inl any)
        | inr p ↦ elim (to-shapes y u hy hu.0 g) [
          | inl any ↦ from-shapes joined u (kept hx).0 hu.0 (inl any)
          | inr q ↦ elim (levels b u hu) [
            | inl const ↦ absurd (no-const const.0 (subst (λ v. value_below x v) const.1 f) (subst (λ v. value_below y v) const.1 g))
            | inr levelled ↦ least-inside u hx hy hu levelled p.0 p.1 q.1 p.2 q.2 p.3 q.3
          ]
        ]
      ]

  joins-raised : Joins b x y joined
  joins-raised = record {
    kept = kept;
    least = λ hx hy. record { valid = kept hx; above_left = above-left hx hy; above_right = above-right hx hy; least = λ u hu f g. least u hx hy hu f g };
  }

-- a number with a mark is a Const
number-mark : (x : Value) → (shape_of x).family ≡ fam.Number → ((c : ℕ) × (x ≡ Const c)) ⊎ ((shape_of x).mark ≡ None)
number-mark (Const c) f = inl (c, refl)
number-mark Num f = inr refl
number-mark (Below k) f = inr refl
number-mark (Low k) f = inr refl
number-mark (Both k) f = inr refl
number-mark _ f = cc

joins-family : (b : List ℕ) (x y : Value) (low : ℕ) (mark : Option (ℕ × ℕ)) → IsBounds b → (shape_of x).family ≡ (shape_of y).family → IsLeastFrom b (max (shape_of x).low (shape_of y).low) low → IsShared (shape_of x).mark (shape_of y).mark mark → Joins b x y (value_in (shape_of x).family (max (shape_of x).high (shape_of y).high) low mark)
joins-family b x y low mark bounds family up shared =
    elim (is-number (shape_of x).family) [
      | inr other ↦ joins-raised b x y low mark bounds family up shared (λ e. absurd (other e))
      | inl number ↦ elim shared [
        | inr q ↦ joins-raised b x y low mark bounds family up (inr q) (λ e. q.1)
        | inl p ↦ elim (number-mark x number) [
          | inr none ↦ joins-raised b x y low mark bounds family up (inl p) (λ e. p.1 ∙ none)
          | inl const ↦
              let marked : (shape_of x).mark ≡ Some (0, const.0) = ap (λ v. (shape_of v).mark) const.1 in
              let other : y ≡ Const const.0 = const-told const.0 y (sym family ∙ number) (sym p.0 ∙ marked) in
              let is : value_in (shape_of x).family (max (shape_of x).high (shape_of y).high) low mark ≡ Const const.0 = rw (number, p.1 ∙ marked) refl in
              constants const.0 const.1 other is
        ]
      ]
    ]
  where
    constants : {v : Value} (c : ℕ) → x ≡ Const c → y ≡ Const c → v ≡ Const c → Joins b x y v
    constants {v} c f g h = rw (f, g, h) (joins-const b c)

-- the join is what it has to be
pub joins : (b : List ℕ) (x y : Value) → IsBounds b → Joins b x y (join b x y)
joins b x y bounds = go (same_family (shape_of x).family (shape_of y).family) refl
  where
    bounded : (o : Option ℕ) → first_from (max (shape_of x).low (shape_of y).low) b ≡ o → (shape_of x).family ≡ (shape_of y).family → Joins b x y (value_up_to o (shape_of x).family (max (shape_of x).high (shape_of y).high) (shared_mark (shape_of x).mark (shape_of y).mark))
    bounded None none family = joins-none b x y bounds none
    bounded (Some low) some family = joins-family b x y low (shared_mark (shape_of x).mark (shape_of y).mark) bounds family (first-is-up (max (shape_of x).low (shape_of y).low) low b bounds.ascending some) (marks-shared (shape_of x).mark (shape_of y).mark)

    go : (t : Bool) → same_family (shape_of x).family (shape_of y).family ≡ t → Joins b x y (if t then value_up_to (first_from (max (shape_of x).low (shape_of y).low) b) (shape_of x).family (max (shape_of x).high (shape_of y).high) (shared_mark (shape_of x).mark (shape_of y).mark) else Any)
    go true e = bounded (first_from (max (shape_of x).low (shape_of y).low) b) refl (family-told (shape_of x).family (shape_of y).family e)
    go false e = joins-apart b x y (λ same. apart same)
      where
        apart : (shape_of x).family ≡ (shape_of y).family → ⊥
        apart same =
            let is : same_family (shape_of x).family (shape_of y).family ≡ true = subst (λ (f : Family). same_family (shape_of x).family f ≡ true) same (family-same (shape_of x).family) in
            cc

-- ---- the code's answers

module _ (b : List ℕ) (x y : Value) (s t : Shape) (is_s : s ≡ shape_of x) (is_t : t ≡ shape_of y) where
  by-shapes : (v : Value) → v ≡ joined_shapes b s t → v ≡ join b x y
  by-shapes v is = is ∙ rw (is_s, is_t) refl

  pub answers-apart : s.family ≢ t.family → Any ≡ join b x y
  answers-apart apart = by-shapes Any (go (same_family s.family t.family) refl)
    where
      go : (test : Bool) → same_family s.family t.family ≡ test → Any ≡ joined_shapes b s t
      go true e = absurd (apart (family-told s.family t.family e))
      go false e = rw e refl

  one-family : (v : Value) → s.family ≡ t.family → v ≡ value_up_to (first_from (max s.low t.low) b) s.family (max s.high t.high) (shared_mark s.mark t.mark) → v ≡ joined_shapes b s t
  one-family v family is =
      let test : same_family s.family t.family ≡ true = subst (λ (f : Family). same_family s.family f ≡ true) family (family-same s.family) in
      is ∙ rw test refl

  pub answers-none : (k : ℕ) → s.family ≡ t.family → k ≡ max s.low t.low → None ≡ first_from k b → Any ≡ join b x y
  answers-none k family is none =
      let found : first_from (max s.low t.low) b ≡ None = ap (λ j. first_from j b) (sym is) ∙ sym none in
      by-shapes Any (one-family Any family (rw found refl))

  pub answers-raised : (k high low : ℕ) (mark : Option (ℕ × ℕ)) (v : Value) → s.family ≡ t.family → k ≡ max s.low t.low → Some low ≡ first_from k b → high ≡ max s.high t.high → mark ≡ shared_mark s.mark t.mark → v ≡ value_of record { family = s.family; high = high; low = low; mark = mark } → v ≡ join b x y
  answers-raised k high low mark v family is some tops shared value =
      let found : first_from (max s.low t.low) b ≡ Some low = ap (λ j. first_from j b) (sym is) ∙ sym some in
      by-shapes v (one-family v family (value ∙ rw (found, tops, shared) refl))
