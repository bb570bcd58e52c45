-- Two tables of which each is lower than the other are one.
use Rattle.std.proofs.Common.{◌≡◌, ◌≢◌, ◌⊎◌, inl, inr, ℕ, suc, ◌≤◌, ◌<◌, ◌==◌, Bool, true, false, List, [], ◌∷◌, Option, Some, None, refl, sym, ◌∙◌, ap, subst, arith}
use Rattle.std.specs.Prelude.{nat_lt}
use Rattle.std.proofs.lemmas.Bool.Decides.{nat_tests}
use Rattle.vw_domain.specs.declared.parts.Parts.{Parts}
use Rattle.vw_domain.specs.State.{IsValidState, state_below}
use Rattle.vw_domain.specs.StateOrder.{state_antisymmetric}
use Rattle.vw_state.specs.declared.tables.PointState.{PointState}
use Rattle.vw_state.specs.Context.{Context}
use Rattle.vw_state.specs.Tables.{state_of, RisesWithin}
use Rattle.vw_state.specs.Solution.{IsLower}

some_is : {A : Type 0} {x y : A} → Some x ≡ Some y → x ≡ y
some_is e = cc

none_some : {A : Type 0} {x : A} → None ≡ Some x → ⊥
none_some e = absurd cc

here : (p : PointState) (rest : List PointState) (q : ℕ) → p.at ≡ q → state_of (p ∷ rest) q ≡ Some p.state
here p rest q e = let is : (p.at == q) ≡ true = grind (arith, nat_tests, e) in rw is refl

there : (p : PointState) (rest : List PointState) (q : ℕ) → p.at ≢ q → state_of (p ∷ rest) q ≡ state_of rest q
there p rest q other = let is : (p.at == q) ≡ false = grind (arith, nat_tests, other) in rw is refl

none_before : (from last : ℕ) (table : List PointState) → RisesWithin from last table → (q : ℕ) → q < from → state_of table q ≡ None
none_before from last [] rises q less = refl
none_before from last (p ∷ rest) rises q less =
    let apart : p.at ≢ q = omega (arith, rises.0, less) in
    there p rest q apart ∙ none_before (suc p.at) last rest rises.2 q (omega (arith, rises.0, less))

by_order : (a b : ℕ) → (a < b) ⊎ (b ≤ a)
by_order a b = decide (nat_lt a b) refl
  where
    decide : (is : Bool) → nat_lt a b ≡ is → (a < b) ⊎ (b ≤ a)
    decide true is = inl (grind (arith, nat_tests, is))
    decide false is = inr (grind (arith, nat_tests, is))

-- the first point of one table is not below that of another with the same states
not_below : (from last : ℕ) (p q : PointState) (ps qs : List PointState) → RisesWithin from last (q ∷ qs) → ((r : ℕ) → state_of (p ∷ ps) r ≡ state_of (q ∷ qs) r) → p.at < q.at → ⊥
not_below from last p q ps qs rises alike less =
    let none : state_of (q ∷ qs) p.at ≡ None = none_before q.at last (q ∷ qs) (omega arith, rises.1, rises.2) p.at less in
    none_some (sym none ∙ (sym (alike p.at) ∙ here p ps p.at refl))

point_is : (p q : PointState) → p.at ≡ q.at → p.state ≡ q.state → p ≡ q
point_is p q at state = ap (λ (n : ℕ). record { at = n; state = p.state }) at ∙ ap (λ (s : Parts). record { at = q.at; state = s }) state

pub tables_alike : (from last : ℕ) (xs ys : List PointState) → RisesWithin from last xs → RisesWithin from last ys → ((r : ℕ) → state_of xs r ≡ state_of ys r) → xs ≡ ys
tables_alike from last [] [] rx ry alike = refl
tables_alike from last [] (q ∷ qs) rx ry alike = absurd (none_some (alike q.at ∙ here q qs q.at refl))
tables_alike from last (p ∷ ps) [] rx ry alike = absurd (none_some (sym (alike p.at) ∙ here p ps p.at refl))
tables_alike from last (p ∷ ps) (q ∷ qs) rx ry alike =
    let low : p.at ≤ q.at = at_most p.at q.at (λ less. not_below from last q p qs ps rx (λ r. sym (alike r)) less) in
    let high : q.at ≤ p.at = at_most q.at p.at (λ less. not_below from last p q ps qs ry alike less) in
    let same : p.at ≡ q.at = omega (arith, low, high) in
    let state : p.state ≡ q.state = some_is (sym (here p ps p.at refl) ∙ (alike p.at ∙ here q qs p.at (sym same))) in
    let ry' : RisesWithin (suc p.at) last qs = subst (λ (n : ℕ). RisesWithin (suc n) last qs) (sym same) ry.2 in
    let rest : ps ≡ qs = tables_alike (suc p.at) last ps qs rx.2 ry' (λ r. later r same ry') in
    ap (λ (x : PointState). x ∷ ps) (point_is p q same state) ∙ ap (λ (xs : List PointState). q ∷ xs) rest
  where
    at_most : (a b : ℕ) → (b < a → ⊥) → a ≤ b
    at_most a b never = elim (by_order b a) [ inl less ↦ absurd (never less) | inr le ↦ le ]

    later : (r : ℕ) → p.at ≡ q.at → RisesWithin (suc p.at) last qs → state_of ps r ≡ state_of qs r
    later r same ry' =
        elim (by_order p.at r) [
          | inl above ↦
              let apart_p : p.at ≢ r = omega (arith, above) in
              let apart_q : q.at ≢ r = omega (arith, above, same) in
              sym (there p ps r apart_p) ∙ (alike r ∙ there q qs r apart_q)
          | inr below ↦ none_before (suc p.at) last ps rx.2 r (omega (arith, below)) ∙ sym (none_before (suc p.at) last qs ry' r (omega (arith, below)))
        ]

-- ---- tables that are lower than each other

module _ (f : Context) (x y : List PointState) (up : IsLower f x y) (down : IsLower f y x) where
  same_states : (q : ℕ) (a b : Option Parts) → state_of x q ≡ a → state_of y q ≡ b → a ≡ b
  same_states q None None ea eb = refl
  same_states q (Some s) None ea eb = let lands = up q s ea in absurd (none_some (sym eb ∙ lands.there))
  same_states q None (Some t) ea eb = let lands = down q t eb in absurd (none_some (sym ea ∙ lands.there))
  same_states q (Some s) (Some t) ea eb =
      let above = up q s ea in
      let below = down q t eb in
      let to_t : above.cover ≡ t = some_is (sym above.there ∙ eb) in
      let to_s : below.cover ≡ s = some_is (sym below.there ∙ ea) in
      let low : IsValidState f.bounds s = subst (λ (u : Parts). IsValidState f.bounds u) to_s below.fits in
      let high : IsValidState f.bounds t = subst (λ (u : Parts). IsValidState f.bounds u) to_t above.fits in
      ap Some (state_antisymmetric f.bounds s t low high (subst (λ (u : Parts). state_below s u) to_t above.is_below) (subst (λ (u : Parts). state_below t u) to_s below.is_below))

  pub lower_both : RisesWithin 0 f.size x → RisesWithin 0 f.size y → x ≡ y
  lower_both rx ry = tables_alike 0 f.size x y rx ry (λ q. same_states q (state_of x q) (state_of y q) refl refl)
