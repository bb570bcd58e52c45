-- A greater value has a lower rank.
use Rattle.std.proofs.Common.{◌≡◌, ℕ, ◌+◌, ◌-◌, ◌^◌, ◌<◌, ◌≤◌, ◌⊎◌, inl, inr, Option, Some, None, List, [], ◌∷◌, refl, subst, arith, min, length}
use Rattle.std.proofs.lemmas.Bool.Decides.{nat_tests}
use Rattle.vw_values.specs.Bounds.{IsMember}
use Rattle.vw_values.specs.declared.value.Value.{Value}
use Rattle.vw_values.specs.declared.value.Value.TheVariants.{Num, Const, Below, Low, Both, HeapAddr, Index16, EntryTyped, JumpOff, JumpDest}
use Rattle.vw_values.specs.declared.shape.Family.{Family}
use Rattle.vw_values.specs.declared.shape.Family.TheVariants as fam
use Rattle.vw_values.specs.declared.shape.Shape.{Shape}
use Rattle.vw_values.specs.Values.{IsValue, value_below, mark_below, IsValid}
use Rattle.vw_values.specs.Shapes.{shape_of}
use Rattle.vw_values.specs.Rank.{above, mark_rank, family_rank, value_rank}
use Rattle.vw_values.specs.ShapeOrder.{to-shapes}

pub above-falls : (low high : ℕ) (ms : List ℕ) → low ≤ high → above high ms ≤ above low ms
above-falls low high [] h = omega arith
above-falls low high (m ∷ ms) h = let later = above-falls low high ms h in grind (arith, nat_tests)

pub above-strict : (low high : ℕ) (ms : List ℕ) → low < high → IsMember ms high → above high ms < above low ms
above-strict low high [] h within = absurd within
above-strict low high (m ∷ ms) h (inl here) = let later = above-falls low high ms (omega arith) in grind (arith, nat_tests)
above-strict low high (m ∷ ms) h (inr there) = let later = above-strict low high ms h there in grind (arith, nat_tests)

pub above-most : (low : ℕ) (ms : List ℕ) → above low ms ≤ length ms
above-most low [] = omega arith
above-most low (m ∷ ms) = let later = above-most low ms in grind (arith, nat_tests)

pub marks-fall : (m n : Option (ℕ × ℕ)) → mark_below m n → mark_rank n ≤ mark_rank m
marks-fall m None h = omega arith
marks-fall m (Some n) h = rw h (omega arith)

family-falls : (f : Family) (a b : ℕ) → a ≤ b → family_rank f a ≤ family_rank f b
family-falls fam.Any a b h = omega arith
family-falls _ a b h = omega arith

pub any-last : (f : Family) (a : ℕ) → f ≡ fam.Any → family_rank f a ≡ 0
any-last fam.Any a e = refl
any-last _ a e = cc

pub last-any : (f : Family) (a : ℕ) → family_rank f a ≡ 0 → f ≡ fam.Any
last-any fam.Any a e = refl
last-any _ a e = absurd (omega arith)

pub family-strict : (f : Family) (a b : ℕ) → family_rank f a ≡ family_rank f b → (f ≡ fam.Any) ⊎ (a ≡ b)
family-strict fam.Any a b e = inl refl
family-strict _ a b e = inr (omega arith)

abbrev pub inner : List ℕ → Shape → ℕ
inner bounds s = (2 - s.high) + above s.low (1 ∷ 2 ^ 32 ∷ bounds) + mark_rank s.mark

inner-falls : (b : List ℕ) (s t : Shape) → s.high ≤ t.high → s.low ≤ t.low → mark_below s.mark t.mark → inner b t ≤ inner b s
inner-falls b s t high low mark =
    let counts = above-falls s.low t.low (1 ∷ 2 ^ 32 ∷ b) low in
    let marks = marks-fall s.mark t.mark mark in
    omega (arith, counts, marks)

pub rank-falls : (b : List ℕ) (x y : Value) → IsValue x → IsValue y → value_below x y → value_rank b y ≤ value_rank b x
rank-falls b x y hx hy h =
    elim (to-shapes x y hx hy h) [
      | inl any ↦ let last = any-last (shape_of y).family (inner b (shape_of y)) any in omega (arith, last)
      | inr p ↦
          let falls = family-falls (shape_of x).family (inner b (shape_of y)) (inner b (shape_of x)) (inner-falls b (shape_of x) (shape_of y) p.1 p.2 p.3) in
          let F : Family → Type 0 = λ f. family_rank f (inner b (shape_of y)) ≤ value_rank b x in
          subst F p.0 falls
    ]

-- of every value but a Const: the bound of the high half is one of three, and that of the low half is
-- listed
pub record IsLevelled (b : List ℕ) (v : Value) : Type 0 where
  pub high : ((shape_of v).high ≡ 0) ⊎ (((shape_of v).high ≡ 1) ⊎ ((shape_of v).high ≡ 2 ^ 32 - 1))
  pub low : IsMember (1 ∷ 2 ^ 32 ∷ b) (shape_of v).low
  pub unmarked : (shape_of v).family ≡ fam.Number → (shape_of v).mark ≡ None

pub levels : (b : List ℕ) (v : Value) → IsValid b v → ((c : ℕ) × (v ≡ Const c)) ⊎ IsLevelled b v
levels b (Const c) h = inl (c, refl)
levels b (Below k) h =
    elim h.0.1 [
      | inl small ↦
          let same : k ≡ min k (2 ^ 32) = omega arith in
          inr record { high = inl (omega arith); low = inr (inr (subst (IsMember b) same h.1)); unmarked = λ f. refl }
      | inr large ↦ inr record { high = inr (inl (omega arith)); low = inr (inl (omega arith)); unmarked = λ f. refl }
    ]
levels b Num h = inr record { high = inr (inr refl); low = inr (inl refl); unmarked = λ f. refl }
levels b (Low k) h = inr record { high = inr (inr refl); low = inr (inr h.1); unmarked = λ f. refl }
levels b (Both k) h = inr record { high = inr (inl refl); low = inr (inr h.1); unmarked = λ f. refl }
levels b HeapAddr h = inr record { high = inl refl; low = inr (inl refl); unmarked = λ f. refl }
levels b (Index16 k m) h = inr record { high = inl refl; low = inr (inr h.1); unmarked = λ f. cc }
levels b (EntryTyped t g) h = inr record { high = inl refl; low = inl refl; unmarked = λ f. cc }
levels b (JumpOff a k) h = inr record { high = inl refl; low = inr (inr h.1); unmarked = λ f. cc }
levels b (JumpDest a k) h = inr record { high = inl refl; low = inr (inr h.1); unmarked = λ f. cc }
levels b _ h = inr record { high = inl refl; low = inl refl; unmarked = λ f. refl }

pub marks-equal : (m n : Option (ℕ × ℕ)) → mark_below m n → mark_rank m ≡ mark_rank n → m ≡ n
marks-equal m (Some n) h e = h
marks-equal None None h e = refl
marks-equal (Some m) None h e = absurd (omega arith)

pub three : {a b : ℕ} → (a ≡ 0) ⊎ ((a ≡ 1) ⊎ (a ≡ 2 ^ 32 - 1)) → (b ≡ 0) ⊎ ((b ≡ 1) ⊎ (b ≡ 2 ^ 32 - 1)) → 2 - a ≡ 2 - b → a ≡ b
three h g e = grind arith

pub parts-equal : {a b c d e f : ℕ} → b ≤ a → d ≤ c → f ≤ e → a + c + e ≡ b + d + f → (a ≡ b) × (c ≡ d) × (e ≡ f)
parts-equal p q r same = (omega arith, omega arith, omega arith)

pub lows-equal : (b : List ℕ) (low high : ℕ) → low ≤ high → IsMember b high → above low b ≡ above high b → low ≡ high
lows-equal b low high h within same =
    elim (split-le h) [
      | inl less ↦ let strict = above-strict low high b less within in absurd (omega arith)
      | inr equal ↦ equal
    ]
  where
    split-le : {x y : ℕ} → x ≤ y → (x < y) ⊎ (x ≡ y)
    split-le h = grind arith
