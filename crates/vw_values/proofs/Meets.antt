-- The greatest number that is below two numbers other than a Const: the lesser bound of each half.
use Rattle.std.proofs.Common.{◌≡◌, ℕ, ◌-◌, ◌/◌, ◌^◌, ◌<◌, ◌≤◌, ◌⊎◌, inl, inr, Option, Some, None, List, refl, sym, ap, subst, ◌∙◌, arith, min, nat_le, if◌then◌else◌}
use Rattle.std.proofs.lemmas.Bool.Decides.{nat_tests}
use Rattle.vw_insn.specs.declared.registers.Width.{Width}
use Rattle.vw_insn.specs.declared.registers.Width.TheVariants.{W8, W16, W32, W64}
use Rattle.vw_insn.specs.Listed.{IsWide}
use Rattle.vw_insn.specs.Words.{low}
use Rattle.vw_values.specs.Bounds.{IsBounds, IsMember, first_from}
use Rattle.vw_values.specs.declared.value.Value.{Value}
use Rattle.vw_values.specs.declared.value.Value.TheVariants.{Num, Const, Below, Low, Both}
use Rattle.vw_values.specs.declared.shape.Family.TheVariants as fam
use Rattle.vw_values.specs.Values.{IsValue, IsAmong, IsValid, value_below}
use Rattle.vw_values.specs.Shapes.{shape_of, number_of}
use Rattle.vw_values.specs.ShapeOrder.{to-shapes, from-shapes}
use Rattle.vw_values.specs.Refinements.{cut, cut_whole, cut_half}
use Rattle.vw_values.specs.Laws.{IsOpen, IsGreatest, WholeCutIsGreatest, HalfCutIsGreatest}
use Rattle.vw_values.proofs.UpLemmas.{first-is-up}
use Rattle.vw_values.proofs.JoinLemmas.{IsRaised, bounded-raised, by-bounded, by-le, IsStep}
use Rattle.vw_values.proofs.NarrowLemmas.{min-listed}

-- a number that is no Const is a pair of bounds
pub record IsPair (v : Value) : Type 0 where
  pub valid : IsValue v
  pub family : (shape_of v).family ≡ fam.Number
  pub step : IsStep (shape_of v).high
  pub range : (1 ≤ (shape_of v).low) × ((shape_of v).low ≤ 2 ^ 32)
  pub mark : (shape_of v).mark ≡ None

pub pair : (v : Value) → IsOpen v → IsValue v → IsPair v
pair Num h g = record { valid = g; family = refl; step = inr (inr refl); range = (omega arith, omega arith); mark = refl }
pair (Below k) h g = record { valid = g; family = refl; step = elim g.1 [ inl most ↦ inl (omega arith) | inr top ↦ inr (inl (omega arith)) ]; range = (omega arith, omega arith); mark = refl }
pair (Low k) h g = record { valid = g; family = refl; step = inr (inr refl); range = (omega arith, omega arith); mark = refl }
pair (Both k) h g = record { valid = g; family = refl; step = inr (inl refl); range = (omega arith, omega arith); mark = refl }
pair _ h g = absurd h

step-least : (h k : ℕ) → IsStep h → IsStep k → IsStep (min h k)
step-least h k f g = grind arith

step-most : (h : ℕ) → IsStep h → h ≤ 2 ^ 32 - 1
step-most h f = grind arith

bounded-open : (high low : ℕ) → 1 ≤ low → low ≤ 2 ^ 32 → IsValue (number_of high low)
bounded-open high low positive most =
    by-bounded IsValue high low (λ _. (positive, inl most)) (λ _ less. (positive, less)) (λ _ _. (omega arith, inr refl)) (λ _ less. (positive, less)) (λ _ _. tt)

abbrev pub meet : Value → Value → Value
meet v w = number_of (min (shape_of v).high (shape_of w).high) (min (shape_of v).low (shape_of w).low)

module _ (v w : Value) (left : IsPair v) (right : IsPair w) where
  raised : IsRaised fam.Number (min (shape_of v).high (shape_of w).high) (min (shape_of v).low (shape_of w).low) None (meet v w)
  raised =
      let l = left.range in
      let r = right.range in
      let h = step-most (shape_of v).high left.step in
      bounded-raised (min (shape_of v).high (shape_of w).high) (min (shape_of v).low (shape_of w).low) (omega arith) (omega arith) (omega arith)

  pub meet-valid : IsValue (meet v w)
  meet-valid =
      let l = left.range in
      let r = right.range in
      bounded-open (min (shape_of v).high (shape_of w).high) (min (shape_of v).low (shape_of w).low) (omega arith) (omega arith)

  -- the bounds of the meet are the lesser ones
  meet-high : (shape_of (meet v w)).high ≡ min (shape_of v).high (shape_of w).high
  meet-high =
      let most = raised.least (min (shape_of v).high (shape_of w).high) (step-least (shape_of v).high (shape_of w).high left.step right.step) (omega arith) in
      let above = raised.above in
      omega arith

  pub meet-left : value_below (meet v w) v
  meet-left =
      let low = raised.low' in
      let high = meet-high in
      from-shapes (meet v w) v meet-valid left.valid (inr (raised.family ∙ sym left.family, omega arith, omega arith, rw left.mark tt))

  pub meet-right : value_below (meet v w) w
  meet-right =
      let low = raised.low' in
      let high = meet-high in
      from-shapes (meet v w) w meet-valid right.valid (inr (raised.family ∙ sym right.family, omega arith, omega arith, rw right.mark tt))

  pub meet-greatest : (z : Value) → IsValue z → value_below z v → value_below z w → value_below z (meet v w)
  meet-greatest z hz f g =
      elim (to-shapes z v hz left.valid f) [
        | inl any ↦ let no : fam.Number ≡ fam.Any = sym left.family ∙ any in absurd (not-any no)
        | inr p ↦ elim (to-shapes z w hz right.valid g) [
          | inl any ↦ let no : fam.Number ≡ fam.Any = sym right.family ∙ any in absurd (not-any no)
          | inr q ↦
              let low = raised.low' in
              let high = meet-high in
              from-shapes z (meet v w) hz meet-valid (inr (p.0 ∙ left.family ∙ sym raised.family, omega arith, omega arith, rw raised.mark' tt))
        ]
      ]
    where
      not-any : fam.Number ≡ fam.Any → ⊥
      not-any e = cc

  pub is-greatest : IsGreatest v w (meet v w)
  is-greatest = record { in_range = meet-valid; left = meet-left; right = meet-right; greatest = meet-greatest }

-- ---- what a comparison leaves is such a meet

by-parts : (x : Value) (high low : ℕ) → (high ≡ 0 → x ≡ Below low) → (high ≡ 1 → low < 2 ^ 32 → x ≡ Both low) → (high ≡ 1 → 2 ^ 32 ≤ low → x ≡ Below (2 ^ 33)) → (2 ≤ high → low < 2 ^ 32 → x ≡ Low low) → (2 ≤ high → 2 ^ 32 ≤ low → x ≡ Num) → x ≡ number_of high low
by-parts x high low f g h i j = by-bounded (λ v. x ≡ v) high low f g h i j

below-same : (j k : ℕ) → j ≡ k → Below j ≡ Below k
below-same j k e = ap Below e

whole-is-meet : (v : Value) (u : ℕ) → IsOpen v → IsValue v → IsValue (Below u) → cut_whole u v ≡ meet v (Below u)
whole-is-meet Num u h g k =
    by-parts (Below u) (min (2 ^ 32 - 1) ((u - 1) / 2 ^ 32)) (min (2 ^ 32) (min u (2 ^ 32)))
    (λ zero. ap Below (omega arith)) (λ one less. absurd (omega arith)) (λ one full. ap Below (omega arith)) (λ two less. absurd (omega arith)) (λ two full. absurd (omega arith))
whole-is-meet (Below j) u h g k =
    by-parts (Below (min j u)) (min ((j - 1) / 2 ^ 32) ((u - 1) / 2 ^ 32)) (min (min j (2 ^ 32)) (min u (2 ^ 32)))
    (λ zero. ap Below (omega arith)) (λ one less. absurd (omega arith)) (λ one full. ap Below (omega arith)) (λ two less. absurd (omega arith)) (λ two full. absurd (omega arith))
whole-is-meet (Low j) u h g k =
    by-le (λ x. x ≡ number_of (min (2 ^ 32 - 1) ((u - 1) / 2 ^ 32)) (min j (min u (2 ^ 32)))) u (2 ^ 32) (Below (min j u)) (Both j)
    (λ small. by-parts (Below (min j u)) (min (2 ^ 32 - 1) ((u - 1) / 2 ^ 32)) (min j (min u (2 ^ 32)))
    (λ zero. ap Below (omega arith)) (λ one less. absurd (omega arith)) (λ one full. absurd (omega arith)) (λ two less. absurd (omega arith)) (λ two full. absurd (omega arith)))
    (λ large. by-parts (Both j) (min (2 ^ 32 - 1) ((u - 1) / 2 ^ 32)) (min j (min u (2 ^ 32)))
    (λ zero. absurd (omega arith)) (λ one less. ap Both (omega arith)) (λ one full. absurd (omega arith)) (λ two less. absurd (omega arith)) (λ two full. absurd (omega arith)))
whole-is-meet (Both j) u h g k =
    by-le (λ x. x ≡ number_of (min 1 ((u - 1) / 2 ^ 32)) (min j (min u (2 ^ 32)))) u (2 ^ 32) (Below (min j u)) (Both j)
    (λ small. by-parts (Below (min j u)) (min 1 ((u - 1) / 2 ^ 32)) (min j (min u (2 ^ 32)))
    (λ zero. ap Below (omega arith)) (λ one less. absurd (omega arith)) (λ one full. absurd (omega arith)) (λ two less. absurd (omega arith)) (λ two full. absurd (omega arith)))
    (λ large. by-parts (Both j) (min 1 ((u - 1) / 2 ^ 32)) (min j (min u (2 ^ 32)))
    (λ zero. absurd (omega arith)) (λ one less. ap Both (omega arith)) (λ one full. absurd (omega arith)) (λ two less. absurd (omega arith)) (λ two full. absurd (omega arith)))
whole-is-meet _ u h g k = absurd h

half-is-meet : (v : Value) (u : ℕ) → IsOpen v → IsValue v → IsValue (Low u) → cut_half u v ≡ meet v (Low u)
half-is-meet Num u h g k =
    by-parts (Low u) (min (2 ^ 32 - 1) (2 ^ 32 - 1)) (min (2 ^ 32) u)
    (λ zero. absurd (omega arith)) (λ one less. absurd (omega arith)) (λ one full. absurd (omega arith)) (λ two less. ap Low (omega arith)) (λ two full. absurd (omega arith))
half-is-meet (Below j) u h g k =
    by-le (λ x. x ≡ number_of (min ((j - 1) / 2 ^ 32) (2 ^ 32 - 1)) (min (min j (2 ^ 32)) u)) j (2 ^ 32) (Below (min j u)) (Both u)
    (λ small. by-parts (Below (min j u)) (min ((j - 1) / 2 ^ 32) (2 ^ 32 - 1)) (min (min j (2 ^ 32)) u)
    (λ zero. ap Below (omega arith)) (λ one less. absurd (omega arith)) (λ one full. absurd (omega arith)) (λ two less. absurd (omega arith)) (λ two full. absurd (omega arith)))
    (λ large. by-parts (Both u) (min ((j - 1) / 2 ^ 32) (2 ^ 32 - 1)) (min (min j (2 ^ 32)) u)
    (λ zero. absurd (omega arith)) (λ one less. ap Both (omega arith)) (λ one full. absurd (omega arith)) (λ two less. absurd (omega arith)) (λ two full. absurd (omega arith)))
half-is-meet (Low j) u h g k =
    by-parts (Low (min j u)) (min (2 ^ 32 - 1) (2 ^ 32 - 1)) (min j u)
    (λ zero. absurd (omega arith)) (λ one less. absurd (omega arith)) (λ one full. absurd (omega arith)) (λ two less. refl) (λ two full. absurd (omega arith))
half-is-meet (Both j) u h g k =
    by-parts (Both (min j u)) (min 1 (2 ^ 32 - 1)) (min j u)
    (λ zero. absurd (omega arith)) (λ one less. refl) (λ one full. absurd (omega arith)) (λ two less. absurd (omega arith)) (λ two full. absurd (omega arith))
half-is-meet _ u h g k = absurd h

up-value : (b : List ℕ) (k u : ℕ) → IsBounds b → first_from k b ≡ Some u → IsValue (Below u)
up-value b k u bounds is =
    let up = first-is-up k u b bounds.ascending is in
    (bounds.positive u up.member, bounds.range u up.member)

half-cut : (u : ℕ) (v : Value) → u < 2 ^ 32 → cut W32 (Some u) v ≡ cut_half u v
half-cut u v less = grind (arith, nat_tests)

half-stays : (u : ℕ) (v : Value) → 2 ^ 32 ≤ u → cut W32 (Some u) v ≡ v
half-stays u v most = grind (arith, nat_tests)

pub whole-greatest : WholeCutIsGreatest
whole-greatest b k u v bounds is o h =
    let range = up-value b k u bounds is in
    let p = is-greatest v (Below u) (pair v o h) (pair (Below u) tt range) in
    subst (IsGreatest v (Below u)) (sym (whole-is-meet v u o h range)) p

pub half-greatest : HalfCutIsGreatest
half-greatest b k u v bounds is less o h =
    let range : IsValue (Low u) = ((up-value b k u bounds is).0, less) in
    let p = is-greatest v (Low u) (pair v o h) (pair (Low u) tt range) in
    subst (IsGreatest v (Low u)) (sym (half-cut u v less ∙ half-is-meet v u o h range)) p

-- a number that is there for all: what a comparison leaves of a number is the greatest number below both, unless it
-- leaves each number as it is
pub record IsCap (w : Width) (k : ℕ) (bound : Option ℕ) (top : Value) : Type 0 where
  pub is_open : IsOpen top
  pub in_range : IsValue top
  pub consts : (c : ℕ) → c < 2 ^ 64 → low w c < k → value_below (Const c) top
  pub meets : (v : Value) → IsOpen v → IsValue v → cut w bound v ≡ meet v top

abbrev pub CutsTo : Width → ℕ → Option ℕ → Type 0
CutsTo w k bound = ((v : Value) → cut w bound v ≡ v) ⊎ ((top : Value) × IsCap w k bound top)

by-whole : (u : ℕ) → (u < 2 ^ 32) ⊎ (2 ^ 32 ≤ u)
by-whole u = grind arith

pub cuts-to : (b : List ℕ) (w : Width) (k : ℕ) → IsBounds b → IsWide w → CutsTo w k (first_from k b)
cuts-to b W8 k bounds wide = absurd wide
cuts-to b W16 k bounds wide = absurd wide
cuts-to b W32 k bounds wide = go (first_from k b) refl
  where
    go : (o : Option ℕ) → first_from k b ≡ o → CutsTo W32 k o
    go None is = inl (λ v. refl)
    go (Some u) is =
        let up = first-is-up k u b bounds.ascending is in
        let above = up.above in
        elim (by-whole u) [
          | inl less ↦
              let range : IsValue (Low u) = (bounds.positive u up.member, less) in
              inr (
                Low u,
                record {
                  is_open = tt;
                  in_range = range;
                  consts = λ c word small. omega arith;
                  meets = λ v o h. half-cut u v less ∙ half-is-meet v u o h range;
                },
              )
          | inr most ↦ inl (λ v. half-stays u v most)
        ]
cuts-to b W64 k bounds wide = go (first_from k b) refl
  where
    go : (o : Option ℕ) → first_from k b ≡ o → CutsTo W64 k o
    go None is = inl (λ v. refl)
    go (Some u) is =
        let up = first-is-up k u b bounds.ascending is in
        let above = up.above in
        let range = up-value b k u bounds is in
        inr (
          Below u,
          record {
            is_open = tt;
            in_range = range;
            consts = λ c word small. omega arith;
            meets = λ v o h. whole-is-meet v u o h range;
          },
        )

-- ---- valid results

module _ (b : List ℕ) (u : ℕ) (member : IsMember b u) where
  by-le-among : (a k : ℕ) (x y : Value) → IsAmong b x → IsAmong b y → IsAmong b (if nat_le a k then x else y)
  by-le-among a k x y f g = by-le (IsAmong b) a k x y (λ _. f) (λ _. g)

  whole-among : (v : Value) → IsAmong b v → IsAmong b (cut_whole u v)
  whole-among Num h = member
  whole-among (Below j) h = min-listed b j u h member
  whole-among (Low j) h = by-le-among u (2 ^ 32) (Below (min j u)) (Both j) (min-listed b j u h member) h
  whole-among (Both j) h = by-le-among u (2 ^ 32) (Below (min j u)) (Both j) (min-listed b j u h member) h
  whole-among _ h = h

  half-among : (v : Value) → IsAmong b v → IsAmong b (cut_half u v)
  half-among Num h = member
  half-among (Below j) h = by-le-among j (2 ^ 32) (Below (min j u)) (Both u) (min-listed b j u h member) member
  half-among (Low j) h = min-listed b j u h member
  half-among (Both j) h = min-listed b j u h member
  half-among _ h = h

  cut-among-some : (w : Width) (v : Value) → IsAmong b v → IsAmong b (cut w (Some u) v)
  cut-among-some W8 v h = h
  cut-among-some W16 v h = h
  cut-among-some W32 v h = elim (by-whole u) [
    | inl less ↦ rw (half-cut u v less) (half-among v h)
    | inr most ↦ rw (half-stays u v most) h
  ]
  cut-among-some W64 v h = whole-among v h

cut-among : (b : List ℕ) (w : Width) (k : ℕ) (v : Value) → IsBounds b → IsAmong b v → IsAmong b (cut w (first_from k b) v)
cut-among b w k v bounds h = go (first_from k b) refl
  where
    go : (o : Option ℕ) → first_from k b ≡ o → IsAmong b (cut w o v)
    go None is = h
    go (Some u) is = cut-among-some b u (first-is-up k u b bounds.ascending is).member w v h

pub cut-valid : (b : List ℕ) (w : Width) (k : ℕ) (v : Value) → IsBounds b → IsWide w → IsOpen v → IsValid b v → IsValid b (cut w (first_from k b) v)
cut-valid b w k v bounds wide o h = (in-range (cuts-to b w k bounds wide), cut-among b w k v bounds h.1)
  where
    in-range : CutsTo w k (first_from k b) → IsValue (cut w (first_from k b) v)
    in-range (inl stays) = rw (stays v) h.0
    in-range (inr c) = rw (c.1.meets v o h.0) (meet-valid v c.0 (pair v o h.0) (pair c.0 c.1.is_open c.1.in_range))
