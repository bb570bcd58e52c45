-- Of valid values with equal ranks none is below another.
use Rattle.std.proofs.Common.{◌≡◌, ℕ, ◌-◌, ◌^◌, ◌≤◌, inl, inr, Option, Some, None, List, ◌∷◌, sym, ap, subst, ◌∙◌, arith}
use Rattle.vw_values.specs.declared.value.Value.{Value}
use Rattle.vw_values.specs.declared.value.Value.TheVariants.{Const}
use Rattle.vw_values.specs.declared.shape.Family.TheVariants as fam
use Rattle.vw_values.specs.Values.{value_below, mark_below, IsValid}
use Rattle.vw_values.specs.Shapes.{shape_of}
use Rattle.vw_values.specs.Rank.{family_rank, value_rank}
use Rattle.vw_values.specs.ShapeOrder.{to-shapes, any-told, const-told}
use Rattle.vw_values.specs.ValueOrder.{shapes-same}
use Rattle.vw_values.specs.RankFalls.{inner, any-last, last-any, family-strict, IsLevelled, levels, marks-equal, marks-fall, three, parts-equal, lows-equal, above-falls}

-- within one family, equal ranks mean equal shapes
module _ (b : List ℕ) (x y : Value) (hx : IsValid b x) (hy : IsValid b y) (family : (shape_of x).family ≡ (shape_of y).family) (high : (shape_of x).high ≤ (shape_of y).high) (low : (shape_of x).low ≤ (shape_of y).low) (mark : mark_below (shape_of x).mark (shape_of y).mark) where
  at-const : (c : ℕ) → y ≡ Const c → x ≡ y
  at-const c is =
      let f : (shape_of x).family ≡ fam.Number = family ∙ ap (λ v. (shape_of v).family) is in
      let m : mark_below (shape_of x).mark (Some (0, c)) = subst (λ v. mark_below (shape_of x).mark (shape_of v).mark) is mark in
      const-told c x f m ∙ sym is

  from-const : (c : ℕ) → x ≡ Const c → IsLevelled b y → (shape_of x).mark ≡ (shape_of y).mark → ⊥
  from-const c is other marks =
      let f : (shape_of y).family ≡ fam.Number = sym family ∙ ap (λ v. (shape_of v).family) is in
      let none : ◌≡◌ {A = Option (ℕ × ℕ)} (Some (0, c)) None = sym (ap (λ v. (shape_of v).mark) is) ∙ marks ∙ other.unmarked f in
      cc

  at-levels : IsLevelled b x → IsLevelled b y → inner b (shape_of x) ≡ inner b (shape_of y) → x ≡ y
  at-levels left right same =
      let counts = above-falls (shape_of x).low (shape_of y).low (1 ∷ 2 ^ 32 ∷ b) low in
      let marks = marks-fall (shape_of x).mark (shape_of y).mark mark in
      let parts = parts-equal (falls high) counts marks same in
      shapes-same x y hx.0 hy.0 family (three left.high right.high parts.0) (lows-equal (1 ∷ 2 ^ 32 ∷ b) (shape_of x).low (shape_of y).low low right.low parts.1) (marks-equal (shape_of x).mark (shape_of y).mark mark parts.2)
    where
      falls : {h k : ℕ} → h ≤ k → 2 - k ≤ 2 - h
      falls h = omega arith

  marks-of : inner b (shape_of x) ≡ inner b (shape_of y) → (shape_of x).mark ≡ (shape_of y).mark
  marks-of same =
      let counts = above-falls (shape_of x).low (shape_of y).low (1 ∷ 2 ^ 32 ∷ b) low in
      let marks = marks-fall (shape_of x).mark (shape_of y).mark mark in
      marks-equal (shape_of x).mark (shape_of y).mark mark (omega arith)

  same-inner : inner b (shape_of x) ≡ inner b (shape_of y) → x ≡ y
  same-inner same =
      elim (levels b y hy) [
        | inl const ↦ at-const const.0 const.1
        | inr right ↦ elim (levels b x hx) [
          | inl const ↦ absurd (from-const const.0 const.1 right (marks-of same))
          | inr left ↦ at-levels left right same
        ]
      ]

pub rank-strict : (b : List ℕ) (x y : Value) → IsValid b x → IsValid b y → value_below x y → value_rank b x ≡ value_rank b y → x ≡ y
rank-strict b x y hx hy h same =
    elim (to-shapes x y hx.0 hy.0 h) [
      | inl any ↦
          let last = any-last (shape_of y).family (inner b (shape_of y)) any in
          any-told x (last-any (shape_of x).family (inner b (shape_of x)) (same ∙ last)) ∙ sym (any-told y any)
      | inr p ↦
          let symbol_sum : family_rank (shape_of x).family (inner b (shape_of x)) ≡ family_rank (shape_of x).family (inner b (shape_of y)) = same ∙ ap (λ f. family_rank f (inner b (shape_of y))) (sym p.0) in
          elim (family-strict (shape_of x).family (inner b (shape_of x)) (inner b (shape_of y)) symbol_sum) [
            | inl any ↦ any-told x any ∙ sym (any-told y (sym p.0 ∙ any))
            | inr inside ↦ same-inner b x y hx hy p.0 p.1 p.2 p.3 inside
          ]
    ]
