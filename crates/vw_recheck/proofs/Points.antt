-- The points of a table by their numbers, and the lowest place at which it is not safe.
use Rattle.std.proofs.Common.{◌≡◌, ◌⊎◌, inl, inr, ℕ, zero, suc, ◌+◌, ◌≤◌, ◌<◌, Bool, true, false, cond, List, [], ◌∷◌, ◌++◌, length, get_or, Option, Some, None, refl, sym, ◌∙◌, ap, subst, arith}
use Rattle.std.specs.Prelude.{◌==◌}
use Rattle.std.specs.List.{slice_get, find, All}
use Rattle.std.specs.Option.{option_map}
use Rattle.std.proofs.lemmas.Bool.Decides.{nat_tests}
use Rattle.std.proofs.lemmas.List.Elements.{All-nil, All-cons}
use Rattle.std.proofs.lemmas.Option.{slice_get_within, slice_get-get_or}
use Rattle.vw_domain.specs.declared.parts.Parts.{Parts}
use Rattle.vw_domain.specs.State.{entry_state, Fits, IsState, IsValidState}
use Rattle.vw_domain.specs.StateOrder.{state_reflexive}
use Rattle.vw_state.specs.declared.tables.PointState.{PointState}
use Rattle.vw_state.specs.Checks.{LacksCode}
use Rattle.vw_state.specs.Context.{Context, code_of}
use Rattle.vw_state.specs.Post.{Post, edges_at}
use Rattle.vw_state.specs.Solution.{Lands}
use Rattle.vw_state.specs.Tables.{state_of, RisesWithin}
use Rattle.vw_checks.specs.Checks.{lacks_code, Passes, LowestFailing}
use Rattle.vw_checks.specs.Safe.{IsSafeTable}
use Rattle.vw_recheck.specs.Places.{PointsAscend, PointFails, IsEdgeTo, IsLowestAt, FailsIn, unordered, begins, point, IsLowestIn}
use Rattle.vw_recheck.proofs.Order.{some_is, none_some, by_order, same_item, above_first, in_order}

pub false_true : false ≡ true → ⊥
false_true e = cc

-- the table's entry with this number
abbrev pub IsAt : List PointState → ℕ → PointState → Type 0
IsAt table k p = slice_get table k ≡ Some p

-- an entry that gives a point its state
pub record Gives (table : List PointState) (point : ℕ) (state : Parts) : Type 0 where
  pub k : ℕ
  pub entry : PointState
  pub is_at : IsAt table k entry
  pub same_point : entry.at ≡ point
  pub same_state : entry.state ≡ state

abbrev given : Option PointState → Option Parts
given found = option_map (λ (p : PointState). p.state) found

gives_step : (p : PointState) (rest : List PointState) (at : ℕ) (state : Parts) → (state_of rest at ≡ Some state → Gives rest at state)
    → (same : Bool) → (p.at == at) ≡ same → given (cond same (Some p) (find (λ (q : PointState). q.at == at) rest)) ≡ Some state → Gives (p ∷ rest) at state
gives_step p rest at state later true is e = record { k = 0; entry = p; is_at = refl; same_point = grind (arith, nat_tests, is); same_state = some_is e }
gives_step p rest at state later false is e =
    let g = later e in record { k = suc g.k; entry = g.entry; is_at = g.is_at; same_point = g.same_point; same_state = g.same_state }

pub gives : (table : List PointState) (at : ℕ) (state : Parts) → state_of table at ≡ Some state → Gives table at state
gives [] at state e = absurd (none_some e)
gives (p ∷ rest) at state e = gives_step p rest at state (gives rest at state) (p.at == at) refl e

pub state_there : (from : ℕ) (table : List PointState) → PointsAscend from table → (k : ℕ) (p : PointState) → IsAt table k p → state_of table p.at ≡ Some p.state
state_there from [] rises k p e = absurd (none_some e)
state_there from (q ∷ rest) rises zero p e =
    let same = some_is e in
    here (q.at == p.at) (grind (arith, nat_tests, ap (λ (r : PointState). r.at) same)) ∙ ap (λ (r : PointState). Some r.state) same
  where
    here : (b : Bool) → b ≡ true → given (cond b (Some q) (find (λ (r : PointState). r.at == p.at) rest)) ≡ Some q.state
    here true is = refl
    here false is = cc
state_there from (q ∷ rest) rises (suc k) p e = later (q.at == p.at) (differ q.at p.at (above_first (λ (r : PointState). r.at) (suc q.at) rest rises.1 k p e)) ∙ state_there (suc q.at) rest rises.1 k p e
  where
    later : (b : Bool) → b ≡ false → given (cond b (Some q) (find (λ (r : PointState). r.at == p.at) rest)) ≡ state_of rest p.at
    later true is = cc
    later false is = refl

    differ : (a b : ℕ) → suc a ≤ b → (a == b) ≡ false
    differ a b less = grind (arith, nat_tests, less)

-- the entry with this number gives its point its state
pub given_there : (at k : ℕ) (d : PointState) (table : List PointState) → PointsAscend 0 table → k < length table → (get_or table k d).at ≡ at → state_of table at ≡ Some (get_or table k d).state
given_there at k d table rises within same =
    subst (λ (a : ℕ). state_of table a ≡ Some (get_or table k d).state) same (state_there 0 table rises k (get_or table k d) (slice_get-get_or table k d within))

-- ---- one edge

-- the last of one edge is taken out
pub only_edge : (front : List (ℕ × Parts)) (edge one : ℕ × Parts) → one ∷ [] ≡ front ++ edge ∷ [] → (front ≡ []) × (edge ≡ one)
only_edge [] edge one e = (refl, cc)
only_edge (x ∷ []) edge one e = absurd (cc)
only_edge (x ∷ y ∷ rest) edge one e = absurd (cc)

pub one_edge : (edges : List (ℕ × Parts)) (edge d : ℕ × Parts) → length edges ≡ 1 → edge ≡ get_or edges 0 d → edges ≡ edge ∷ []
one_edge [] edge d one is = absurd (omega (arith, one))
one_edge (x ∷ []) edge d one is = ap (λ (e : ℕ × Parts). e ∷ []) (sym is)
one_edge (x ∷ y ∷ rest) edge d one is = absurd (omega (arith, one))

pair_same : (edge : ℕ × Parts) (p : PointState) → edge.0 ≡ p.at → edge.1 ≡ p.state → edge ≡ (p.at, p.state)
pair_same edge p at state = ap (λ (a : ℕ). (a, edge.1)) at ∙ ap (λ (s : Parts). (p.at, s)) state

-- one edge goes to the point with this number, with its state
pub edge_to : (table : List PointState) (next : ℕ) (edges : List (ℕ × Parts)) (edge d : ℕ × Parts) (there q : PointState)
    → length edges ≡ 1 → edge ≡ get_or edges 0 d → next < length table → there ≡ get_or table next q → edge.0 ≡ there.at → edge.1 ≡ there.state → IsEdgeTo table next edges
edge_to table next edges edge d there q one is within is_point at state = λ p found.
    let same : p ≡ there = some_is (sym found ∙ slice_get-get_or table next q within) ∙ sym is_point in
    one_edge edges edge d one is ∙ ap (λ (e : ℕ × Parts). e ∷ []) (pair_same edge there at state ∙ sym (ap (λ (r : PointState). (r.at, r.state)) same))

-- it lands where its state has the function's bounds
pub edge_lands : (f : Context) (table : List PointState) (next : ℕ) (edges : List (ℕ × Parts)) (edge d : ℕ × Parts) (there q : PointState)
    → PointsAscend 0 table → length edges ≡ 1 → edge ≡ get_or edges 0 d → next < length table → there ≡ get_or table next q → edge.0 ≡ there.at → edge.1 ≡ there.state
    → IsState there.state → Fits f.bounds there.state → All (Lands f table) edges
edge_lands f table next edges edge d there q rises one is within is_point at state is_state fits =
    let valid : IsValidState f.bounds there.state = record { state = is_state; fits = fits } in
    let given_here : state_of table there.at ≡ Some there.state = state_there 0 table rises next there (slice_get-get_or table next q within ∙ ap Some (sym is_point)) in
    let lands : Lands f table (there.at, there.state) = record { cover = there.state; there = given_here; fits = valid; is_below = state_reflexive f.bounds there.state valid } in
    subst (λ (es : List (ℕ × Parts)). All (Lands f table) es) (sym (one_edge edges edge d one is ∙ ap (λ (e : ℕ × Parts). e ∷ []) (pair_same edge there at state))) (All-cons (Lands f table) (there.at, there.state) [] lands (All-nil (Lands f table)))

-- ---- what fails at one point

-- an edge does not land
pub edge_out : (f : Context) (table : List PointState) (at : ℕ) (state : Parts) → (All (Lands f table) (edges_at f at state) → ⊥) → IsLowestAt f table at state (Some 0)
edge_out f table at state out = (inl (refl, out), λ number fails. omega arith)

-- each edge lands, so that the lowest of the checks is the lowest of all
pub edges_land : (f : Context) (table : List PointState) (at : ℕ) (state : Parts) (o : Option ℕ) → All (Lands f table) (edges_at f at state) → LowestFailing f at state o → IsLowestAt f table at state o
edges_land f table at state None land none = (land, none)
edges_land f table at state (Some lowest) land is = (inr is.0, λ number fails. elim fails [ inl out ↦ absurd (out.1 land) | inr h ↦ is.1 number h ])

-- ---- of all points

-- at the entries below a number each edge lands, and no check fails
abbrev pub SafeBelow : Context → List PointState → ℕ → Type 0
SafeBelow f table n = (k : ℕ) (p : PointState) → k < n → IsAt table k p → IsLowestAt f table p.at p.state None

pub safe_none : (f : Context) (table : List PointState) → SafeBelow f table 0
safe_none f table k p less = absurd (omega (arith, less))

pub safe_more : (f : Context) (table : List PointState) (n : ℕ) (p : PointState) → IsAt table n p → SafeBelow f table n → IsLowestAt f table p.at p.state None → SafeBelow f table (n + 1)
safe_more f table n p is below none k q less is_q =
    elim (by_order k n) [
      | inl before ↦ below k q before is_q
      | inr (inl same) ↦ subst (λ (r : PointState). IsLowestAt f table r.at r.state None) (same_item table n k p q (sym same) is is_q) none
      | inr (inr above) ↦ absurd (omega (arith, less, above))
    ]

-- what fails at a point fails at its entry
fails_there : (f : Context) (table : List PointState) (at number : ℕ) (state : Parts) (g : Gives table at state) → PointFails f table at state number → PointFails f table g.entry.at g.entry.state number
fails_there f table at number state g fails =
    let moved = subst (λ (s : Parts). PointFails f table at s number) (sym g.same_state) fails in
    subst (λ (a : ℕ). PointFails f table a g.entry.state number) (sym g.same_point) moved

-- where each edge lands and no check fails, nothing fails
nothing_fails : (f : Context) (table : List PointState) (at number : ℕ) (state : Parts) → IsLowestAt f table at state None → PointFails f table at state number → ⊥
nothing_fails f table at number state none fails = elim fails [ inl out ↦ out.1 none.0 | inr h ↦ none.1 number h ]

-- each point of code has one list of edges
abbrev pub OneList : Context → Type 0
OneList f = (at : ℕ) (state : Parts) (edges : List (ℕ × Parts)) → Post f at state edges → edges ≡ edges_at f at state

no_code : (f : Context) → length (code_of f) ≤ f.size → (at : ℕ) → f.size < at → LacksCode f at
no_code f short at above i len there = absurd (omega (arith, there.inside, short, above))

inside : (f : Context) → length (code_of f) ≤ f.size → (at : ℕ) (state : Parts) → Passes f at state → at ≤ f.size
inside f short at state passes =
    elim (by_order at f.size) [
      | inl less ↦ omega (arith, less)
      | inr (inl same) ↦ omega (arith, same)
      | inr (inr above) ↦ absurd (passes 1 (lacks_code (no_code f short at above)))
    ]

rises_to : (last from : ℕ) (table : List PointState) → PointsAscend from table → ((k : ℕ) (p : PointState) → IsAt table k p → p.at ≤ last) → RisesWithin from last table
rises_to last from [] rises least = tt
rises_to last from (p ∷ rest) rises within = (rises.0, within 0 p refl, rises_to last (suc p.at) rest rises.1 (λ k q is. within (suc k) q is))

ascends : (last from : ℕ) (table : List PointState) → RisesWithin from last table → PointsAscend from table
ascends last from [] rises = tt
ascends last from (p ∷ rest) rises = (rises.0, ascends last (suc p.at) rest rises.2)

pub safe_all : (f : Context) (table : List PointState) (n : ℕ) → OneList f → length (code_of f) ≤ f.size → length table ≤ n → PointsAscend 0 table → Lands f table (0, entry_state) → SafeBelow f table n → IsLowestIn f table None
safe_all f table n one short end rises lands below = record {
  solution = record {
    rises = rises_to f.size 0 table rises (λ k p is. inside f short p.at p.state (all k p is).1);
    begins = lands;
    closed = λ at state there edges post. subst (λ (es : List (ℕ × Parts)). All (Lands f table) es) (sym (one at state edges post)) (there_passes at state there).0;
  };
  passes = λ at state there. (there_passes at state there).1;
}
  where
    all : (k : ℕ) (p : PointState) → IsAt table k p → IsLowestAt f table p.at p.state None
    all k p is = below k p (omega (arith, end, slice_get_within table k p is)) is

    there_passes : (at : ℕ) (state : Parts) → state_of table at ≡ Some state → IsLowestAt f table at state None
    there_passes at state there =
        let g = gives table at state there in
        let moved = subst (λ (a : ℕ). IsLowestAt f table a g.entry.state None) g.same_point (all g.k g.entry g.is_at) in
        subst (λ (s : Parts). IsLowestAt f table at s None) g.same_state moved

pub first : (at number : ℕ) → (0 < at) ⊎ ((0 ≡ at) × (0 ≤ number))
first zero number = inr (refl, omega arith)
first (suc at) number = inl (omega arith)

pub unordered_first : (f : Context) (table : List PointState) → (PointsAscend 0 table → ⊥) → IsLowestIn f table (Some (0, 0))
unordered_first f table out = (unordered out, λ at number fails. first at number)

pub begins_first : (f : Context) (table : List PointState) → (Lands f table (0, entry_state) → ⊥) → IsLowestIn f table (Some (0, 0))
begins_first f table out = (begins out, λ at number fails. first at number)

pub fails_first : (f : Context) (table : List PointState) (n : ℕ) (p : PointState) (lowest : ℕ) → PointsAscend 0 table → Lands f table (0, entry_state) → IsAt table n p → SafeBelow f table n
    → IsLowestAt f table p.at p.state (Some lowest) → IsLowestIn f table (Some (p.at, lowest))
fails_first f table n p lowest rises lands is below failing = (point p.at lowest p.state (state_there 0 table rises n p is) failing.0, λ at number fails. after at number fails)
  where
    after : (at number : ℕ) → FailsIn f table at number → (p.at < at) ⊎ ((p.at ≡ at) × (lowest ≤ number))
    after _ _ (unordered out) = absurd (out rises)
    after _ _ (begins out) = absurd (out lands)
    after _ _ (point at number state there fails) =
        let g = gives table at state there in
        let here = fails_there f table at number state g fails in
        elim (by_order g.k n) [
          | inl before ↦ absurd (nothing_fails f table g.entry.at number g.entry.state (below g.k g.entry before g.is_at) here)
          | inr (inl same) ↦
              let one = same_item table n g.k p g.entry (sym same) is g.is_at in
              let again = subst (λ (r : PointState). PointFails f table r.at r.state number) (sym one) here in
              inr (ap (λ (r : PointState). r.at) one ∙ g.same_point, failing.1 number again)
          | inr (inr above) ↦ inl (omega (arith, in_order (λ (q : PointState). q.at) 0 table rises n g.k p g.entry above is g.is_at, g.same_point))
        ]

-- ---- a safe table

-- each point of code has the edges that are read from its bytes
abbrev pub HasEdges : Context → Type 0
HasEdges f = (at : ℕ) (state : Parts) → Post f at state (edges_at f at state)

-- nothing fails in a safe table
pub safe_fails : (f : Context) (table : List PointState) → HasEdges f → IsSafeTable f table → (at number : ℕ) → FailsIn f table at number → ⊥
safe_fails f table post safe _ _ (unordered out) = out (ascends f.size 0 table safe.solution.rises)
safe_fails f table post safe _ _ (begins out) = out safe.solution.begins
safe_fails f table post safe _ _ (point at number state there fails) =
    elim fails [
      | inl out ↦ out.1 (safe.solution.closed at state there (edges_at f at state) (post at state))
      | inr h ↦ safe.passes at state there number h
    ]
