-- The points of a table, by their numbers.
use Rattle.std.proofs.Common.{◌≡◌, ◌⊎◌, inl, inr, ℕ, zero, suc, ◌+◌, ◌≤◌, ◌<◌, Bool, true, false, cond, List, [], ◌∷◌, length, Option, Some, None, refl, sym, ◌∙◌, ap, subst, arith}
use Rattle.std.specs.Prelude.{◌==◌, nat_lt}
use Rattle.std.specs.List.{slice_get, find}
use Rattle.std.specs.Option.{option_map}
use Rattle.std.proofs.lemmas.Bool.Decides.{nat_tests}
use Rattle.std.proofs.lemmas.Option.{slice_get_within}
use Rattle.vw_domain.specs.declared.parts.Parts.{Parts}
use Rattle.vw_state.specs.declared.tables.PointState.{PointState}
use Rattle.vw_state.specs.Tables.{state_of, RisesWithin}
use Rattle.vw_state.specs.Context.{Context}
use Rattle.vw_checks.specs.Checks.{Fails, Passes, LowestFailing}
use Rattle.vw_checks.specs.Safe.{NoneFails}
use Rattle.vw_verdict.specs.Places.{FailsFirst}

-- the table's entry with this number
abbrev pub IsAt : List PointState → ℕ → PointState → Type 0
IsAt table k p = slice_get table k ≡ Some p

-- an entry that gives a point its state
record Gives (table : List PointState) (point : ℕ) (state : Parts) : Type 0 where
  pub k : ℕ
  pub entry : PointState
  pub is_at : IsAt table k entry
  pub same_point : entry.at ≡ point
  pub same_state : entry.state ≡ state

some_is : {A : Type 0} {x y : A} → Some x ≡ Some y → x ≡ y
some_is e = cc

abbrev given : Option PointState → Option Parts
given found = option_map (λ (p : PointState). p.state) found

gives_step : (p : PointState) (rest : List PointState) (point : ℕ) (state : Parts) → (state_of rest point ≡ Some state → Gives rest point state)
    → (same : Bool) → (p.at == point) ≡ same → given (cond same (Some p) (find (λ (q : PointState). q.at == point) rest)) ≡ Some state → Gives (p ∷ rest) point state
gives_step p rest point state later true is e = record { k = 0; entry = p; is_at = refl; same_point = grind (arith, nat_tests, is); same_state = some_is e }
gives_step p rest point state later false is e =
    let g = later e in record { k = suc g.k; entry = g.entry; is_at = g.is_at; same_point = g.same_point; same_state = g.same_state }

gives : (table : List PointState) (point : ℕ) (state : Parts) → state_of table point ≡ Some state → Gives table point state
gives [] point state e = absurd (none_some e)
  where
    none_some : {A : Type 0} {x : A} → None ≡ Some x → ⊥
    none_some e = cc
gives (p ∷ rest) point state e = gives_step p rest point state (gives rest point state) (p.at == point) refl e

above_first : (from last : ℕ) (table : List PointState) → RisesWithin from last table → (k : ℕ) (p : PointState) → IsAt table k p → from ≤ p.at
above_first from last [] rises k p e = absurd (none_some e)
  where
    none_some : {A : Type 0} {x : A} → None ≡ Some x → ⊥
    none_some e = cc
above_first from last (q ∷ rest) rises zero p e = let same : q.at ≡ p.at = ap (λ (r : PointState). r.at) (some_is e) in omega (arith, same, rises.0)
above_first from last (q ∷ rest) rises (suc k) p e = omega (arith, rises.0, above_first (suc q.at) last rest rises.2 k p e)

pub state_there : (from last : ℕ) (table : List PointState) → RisesWithin from last table → (k : ℕ) (p : PointState) → IsAt table k p → state_of table p.at ≡ Some p.state
state_there from last [] rises k p e = absurd (none_some e)
  where
    none_some : {A : Type 0} {x : A} → None ≡ Some x → ⊥
    none_some e = cc
state_there from last (q ∷ rest) rises zero p e =
    let same = some_is e in
    here (q.at == p.at) (grind (arith, nat_tests, ap (λ (r : PointState). r.at) same)) ∙ ap (λ (r : PointState). Some r.state) same
  where
    here : (b : Bool) → b ≡ true → given (cond b (Some q) (find (λ (r : PointState). r.at == p.at) rest)) ≡ Some q.state
    here true is = refl
    here false is = cc
state_there from last (q ∷ rest) rises (suc k) p e = later (q.at == p.at) (differ q.at p.at (above_first (suc q.at) last rest rises.2 k p e)) ∙ state_there (suc q.at) last rest rises.2 k p e
  where
    later : (b : Bool) → b ≡ false → given (cond b (Some q) (find (λ (r : PointState). r.at == p.at) rest)) ≡ state_of rest p.at
    later true is = cc
    later false is = refl

    differ : (a b : ℕ) → suc a ≤ b → (a == b) ≡ false
    differ a b less = grind (arith, nat_tests, less)

in_order : (from last : ℕ) (table : List PointState) → RisesWithin from last table → (j k : ℕ) (p q : PointState) → j ≤ k → IsAt table j p → IsAt table k q → p.at ≤ q.at
in_order from last [] rises j k p q less e f = absurd (none_some e)
  where
    none_some : {A : Type 0} {x : A} → None ≡ Some x → ⊥
    none_some e = cc
in_order from last (x ∷ rest) rises zero zero p q less e f = let same : p.at ≡ q.at = ap (λ (r : PointState). r.at) (sym (some_is e) ∙ some_is f) in omega (arith, same)
in_order from last (x ∷ rest) rises zero (suc k) p q less e f =
    let same : x.at ≡ p.at = ap (λ (r : PointState). r.at) (some_is e) in
    omega (arith, same, above_first (suc x.at) last rest rises.2 k q f)
in_order from last (x ∷ rest) rises (suc j) zero p q less e f = absurd (omega (arith, less))
in_order from last (x ∷ rest) rises (suc j) (suc k) p q less e f = in_order (suc x.at) last rest rises.2 j k p q (omega (arith, less)) e f

-- no check fails at the entries below a number
abbrev pub PassesBelow : Context → List PointState → ℕ → Type 0
PassesBelow f table n = (k : ℕ) (p : PointState) → k < n → IsAt table k p → Passes f p.at p.state

pub passes_none : (f : Context) (table : List PointState) → PassesBelow f table 0
passes_none f table k p less = absurd (omega (arith, less))

below_or : (k n : ℕ) → (k < n) ⊎ (n ≤ k)
below_or k n = decide (nat_lt k n) refl
  where
    decide : (is : Bool) → nat_lt k n ≡ is → (k < n) ⊎ (n ≤ k)
    decide true is = inl (grind (arith, nat_tests, is))
    decide false is = inr (grind (arith, nat_tests, is))

pub passes_more : (f : Context) (table : List PointState) (n : ℕ) (p : PointState) → IsAt table n p → PassesBelow f table n → Passes f p.at p.state → PassesBelow f table (n + 1)
passes_more f table n p is below here k q less is_q =
    elim (below_or k n) [
      | inl before ↦ below k q before is_q
      | inr above ↦
          let same_k : n ≡ k = omega (arith, less, above) in
          let same : p ≡ q = some_is (sym is ∙ (ap (λ (i : ℕ). slice_get table i) same_k ∙ is_q)) in
          subst (λ (r : PointState). Passes f r.at r.state) same here
    ]

pub passes_all : (f : Context) (table : List PointState) (n : ℕ) → length table ≤ n → PassesBelow f table n → NoneFails f table
passes_all f table n end below at state there =
    let g = gives table at state there in
    let passes : Passes f g.entry.at g.entry.state = below g.k g.entry (omega (arith, end, slice_get_within table g.k g.entry g.is_at)) g.is_at in
    let moved : Passes f at g.entry.state = subst (λ (a : ℕ). Passes f a g.entry.state) g.same_point passes in
    subst (λ (s : Parts). Passes f at s) g.same_state moved

pub fails_first : (f : Context) (last : ℕ) (table : List PointState) (n : ℕ) (p : PointState) (check : ℕ) → RisesWithin 0 last table → IsAt table n p → PassesBelow f table n
    → LowestFailing f p.at p.state (Some check) → FailsFirst f table p.at check
fails_first f last table n p check rises is below failing = record {
  state = p.state;
  there = state_there 0 last table rises n p is;
  fails = failing;
  lowest = λ other s there c fails. lowest other s there c fails;
}
  where
    lowest : (other : ℕ) (s : Parts) → state_of table other ≡ Some s → (c : ℕ) → Fails f other s c → p.at ≤ other
    lowest other s there c fails =
        let g = gives table other s there in
        elim (below_or g.k n) [
          | inl before ↦
              let moved : Fails f other g.entry.state c = subst (λ (t : Parts). Fails f other t c) (sym g.same_state) fails in
              let here : Fails f g.entry.at g.entry.state c = subst (λ (a : ℕ). Fails f a g.entry.state c) (sym g.same_point) moved in
              absurd (below g.k g.entry before g.is_at c here)
          | inr after ↦ omega (arith, in_order 0 last table rises n g.k p g.entry after is g.is_at, g.same_point)
        ]
