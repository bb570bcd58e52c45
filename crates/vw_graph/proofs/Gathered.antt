-- The table of points that a table of states gives.
use Rattle.std.specs.Prelude.{slice_set}
use Rattle.std.proofs.Common.{◌≡◌, ◌≢◌, get_or-set_other, ℕ, zero, suc, ◌+◌, ◌<◌, ◌≤◌, ◌==◌, true, false, List, [], ◌∷◌, ◌++◌, length, take, Option, Some, None, refl, sym, ◌∙◌, ap, arith, All}
use Rattle.std.proofs.lemmas.List.Elements.{All-nil, All-cons}
use Rattle.std.proofs.lemmas.Bool.Decides.{nat_tests}
use Rattle.vw_solver.specs.Solution.{state_at}
use Rattle.vw_domain.specs.declared.parts.Parts.{Parts}
use Rattle.vw_state.specs.declared.tables.PointState.{PointState}
use Rattle.vw_state.specs.Tables.{state_of, RisesWithin}
use Rattle.vw_graph.specs.search.Solved.{gather, held}

-- ---- point by point

held_at : (m n : ℕ) (o : Option Parts) → m ≡ n → held m o ≡ held n o
held_at m n o e = ap (λ (k : ℕ). held k o) e

gather_snoc : (from : ℕ) (xs : List (Option Parts)) (p : ℕ) → gather from (take (suc p) xs) ≡ gather from (take p xs) ++ held (from + p) (state_at xs p)
gather_snoc from [] zero = refl
gather_snoc from [] (suc p) = refl
gather_snoc from (None ∷ xs) zero = refl
gather_snoc from (Some s ∷ xs) zero = held_at from (from + 0) (Some s) (omega arith)
gather_snoc from (None ∷ xs) (suc p) = gather_snoc (suc from) xs p ∙ ap (λ (h : List PointState). gather (suc from) (take p xs) ++ h) (held_at (suc from + p) (from + suc p) (state_at xs p) (omega arith))
gather_snoc from (Some s ∷ xs) (suc p) =
    ap (λ (rest : List PointState). record { at = from; state = s } ∷ rest)
    (gather_snoc (suc from) xs p ∙ ap (λ (h : List PointState). gather (suc from) (take p xs) ++ h) (held_at (suc from + p) (from + suc p) (state_at xs p) (omega arith)))

one_more : (p : ℕ) → suc p ≡ p + 1
one_more p = omega arith

pub gather_more : (xs : List (Option Parts)) (p : ℕ) (old new : List PointState) (state : Option Parts) → old ≡ gather 0 (take p xs) → state ≡ state_at xs p → new ≡ old ++ held p state → new ≡ gather 0 (take (p + 1) xs)
gather_more xs p old new state e at is =
    is ∙ (ap (λ (t : List PointState). t ++ held p state) e
    ∙ (ap (λ (o : Option Parts). gather 0 (take p xs) ++ held p o) at
    ∙ (ap (λ (h : List PointState). gather 0 (take p xs) ++ h) (held_at p (0 + p) (state_at xs p) (omega arith))
    ∙ (sym (gather_snoc 0 xs p) ∙ ap (λ (n : ℕ). gather 0 (take n xs)) (one_more p)))))

-- ---- the states of its points

here : (at q : ℕ) (s : Parts) (rest : List PointState) → at ≡ q → state_of (record { at = at; state = s } ∷ rest) q ≡ Some s
here at q s rest e = let is : (at == q) ≡ true = grind (arith, nat_tests, e) in rw is refl

there : (at q : ℕ) (s : Parts) (rest : List PointState) → at < q → state_of (record { at = at; state = s } ∷ rest) q ≡ state_of rest q
there at q s rest less = let is : (at == q) ≡ false = grind (arith, nat_tests, less) in rw is refl

below : (at q : ℕ) (s : Parts) (rest : List PointState) → q < at → state_of (record { at = at; state = s } ∷ rest) q ≡ state_of rest q
below at q s rest less = let is : (at == q) ≡ false = grind (arith, nat_tests, less) in rw is refl

none_below : (from : ℕ) (xs : List (Option Parts)) (q : ℕ) → q < from → state_of (gather from xs) q ≡ None
none_below from [] q less = refl
none_below from (None ∷ xs) q less = none_below (suc from) xs q (omega (arith, less))
none_below from (Some s ∷ xs) q less = below from q s (gather (suc from) xs) less ∙ none_below (suc from) xs q (omega (arith, less))

state_from : (from : ℕ) (xs : List (Option Parts)) (p q : ℕ) → q ≡ from + p → state_of (gather from xs) q ≡ state_at xs p
state_from from [] p q e = refl
state_from from (None ∷ xs) zero q e = none_below (suc from) xs q (omega (arith, e))
state_from from (None ∷ xs) (suc p) q e = state_from (suc from) xs p q (omega (arith, e))
state_from from (Some s ∷ xs) zero q e = here from q s (gather (suc from) xs) (omega (arith, e))
state_from from (Some s ∷ xs) (suc p) q e = there from q s (gather (suc from) xs) (omega (arith, e)) ∙ state_from (suc from) xs p q (omega (arith, e))

pub gathered : (xs : List (Option Parts)) (p : ℕ) → state_of (gather 0 xs) p ≡ state_at xs p
gathered xs p = state_from 0 xs p p (omega arith)

-- ---- its order

rises_on : (from last : ℕ) (t : List PointState) → RisesWithin (suc from) last t → RisesWithin from last t
rises_on from last [] r = tt
rises_on from last (p ∷ t) r = (omega (arith, r.0), r.1, r.2)

pub gather_rises : (from last : ℕ) (xs : List (Option Parts)) → from + length xs ≤ suc last → RisesWithin from last (gather from xs)
gather_rises from last [] le = tt
gather_rises from last (None ∷ xs) le = rises_on from last (gather (suc from) xs) (gather_rises (suc from) last xs (omega (arith, le)))
gather_rises from last (Some s ∷ xs) le = (omega arith, omega (arith, le), gather_rises (suc from) last xs (omega (arith, le)))

-- ---- states that are taken out of the table

pub later_kept : (xs old new : List (Option Parts)) (p : ℕ) → new ≡ slice_set old p None → ((q : ℕ) → p ≤ q → state_at old q ≡ state_at xs q) → (q : ℕ) → p + 1 ≤ q → state_at new q ≡ state_at xs q
later_kept xs old new p e same q above =
    let apart : q ≢ p = omega (arith, above) in
    ap (λ (t : List (Option Parts)). state_at t q) e ∙ (get_or-set_other old p q None None apart ∙ same q (omega (arith, above)))

-- ---- what holds of each state

pub gather_all : (P : Parts → Type 0) (from : ℕ) (xs : List (Option Parts)) → ((p : ℕ) (s : Parts) → state_at xs p ≡ Some s → P s) → All {X = PointState} (λ q. P q.state) (gather from xs)
gather_all P from [] each = All-nil {X = PointState} (λ q. P q.state)
gather_all P from (None ∷ xs) each = gather_all P (suc from) xs (λ p s there. each (suc p) s there)
gather_all P from (Some s ∷ xs) each = All-cons {X = PointState} (λ q. P q.state) (record { at = from; state = s }) (gather (suc from) xs) (each 0 s refl) (gather_all P (suc from) xs (λ p x there. each (suc p) x there))
