-- The order of values is an order.
use Rattle.std.proofs.Common.{◌≡◌, ℕ, ◌≤◌, inl, inr, Option, Some, None, refl, sym, ◌∙◌, arith}
use Rattle.vw_values.specs.declared.value.Value.{Value}
use Rattle.vw_values.specs.declared.shape.Shape.{Shape}
use Rattle.vw_values.specs.Values.{IsValue, value_below, mark_below}
use Rattle.vw_values.specs.Shapes.{shape_of, IsUnder, value_of}
use Rattle.vw_values.specs.ShapeOrder.{mark-reflexive, to-shapes, from-shapes, any-told, shape-again}

pub mark-trans : (l m n : Option (ℕ × ℕ)) → mark_below l m → mark_below m n → mark_below l n
mark-trans l m None f g = tt
mark-trans l m (Some n) f g = rw g at f

pub mark-same : (m n : Option (ℕ × ℕ)) → mark_below m n → mark_below n m → m ≡ n
mark-same m (Some n) f g = f
mark-same None None f g = refl
mark-same (Some m) None f g = cc

same-family-trans : (s t u : Shape) → (s.family ≡ t.family) × (s.high ≤ t.high) × (s.low ≤ t.low) × mark_below s.mark t.mark → (t.family ≡ u.family) × (t.high ≤ u.high) × (t.low ≤ u.low) × mark_below t.mark u.mark → (s.family ≡ u.family) × (s.high ≤ u.high) × (s.low ≤ u.low) × mark_below s.mark u.mark
same-family-trans s t u f g = (f.0 ∙ g.0, omega arith, omega arith, mark-trans s.mark t.mark u.mark f.3 g.3)

pub under-reflexive : (s : Shape) → IsUnder s s
under-reflexive s = inr (refl, omega arith, omega arith, mark-reflexive s.mark)

pub under-trans : (s t u : Shape) → IsUnder s t → IsUnder t u → IsUnder s u
under-trans s t u f g =
    elim g [
      | inl any ↦ inl any
      | inr q ↦ elim f [ inl any ↦ inl (sym q.0 ∙ any) | inr p ↦ inr (same-family-trans s t u p q) ]
    ]

pub value-reflexive : (x : Value) → IsValue x → value_below x x
value-reflexive x h = from-shapes x x h h (under-reflexive (shape_of x))

pub value-trans : (x y z : Value) → IsValue x → IsValue y → IsValue z → value_below x y → value_below y z → value_below x z
value-trans x y z hx hy hz f g = from-shapes x z hx hz (under-trans (shape_of x) (shape_of y) (shape_of z) (to-shapes x y hx hy f) (to-shapes y z hy hz g))

low-high : {a b : ℕ} → a ≤ b → b ≤ a → a ≡ b
low-high f g = omega arith

pub shapes-same : (x y : Value) → IsValue x → IsValue y → (shape_of x).family ≡ (shape_of y).family → (shape_of x).high ≡ (shape_of y).high → (shape_of x).low ≡ (shape_of y).low → (shape_of x).mark ≡ (shape_of y).mark → x ≡ y
shapes-same x y hx hy f high low mark =
    let joined : value_of (shape_of x) ≡ value_of (shape_of y) = rw (f, high, low, mark) refl in
    sym (shape-again x hx) ∙ joined ∙ shape-again y hy

pub value-antisym : (x y : Value) → IsValue x → IsValue y → value_below x y → value_below y x → x ≡ y
value-antisym x y hx hy f g =
    elim (to-shapes x y hx hy f) [
      | inl any ↦ elim (to-shapes y x hy hx g) [
        | inl other ↦ any-told x other ∙ sym (any-told y any)
        | inr q ↦ any-told x (sym q.0 ∙ any) ∙ sym (any-told y any)
      ]
      | inr p ↦ elim (to-shapes y x hy hx g) [
        | inl any ↦ any-told x any ∙ sym (any-told y (sym p.0 ∙ any))
        | inr q ↦ shapes-same x y hx hy p.0 (low-high p.1 q.1) (low-high p.2 q.2) (mark-same (shape_of x).mark (shape_of y).mark p.3 q.3)
      ]
    ]
