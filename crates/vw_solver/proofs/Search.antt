-- Why the solver's table is the least solution, and what it costs.
use Rattle.std.proofs.Common.{◌≡◌, ◌≢◌, ℕ, zero, suc, ◌+◌, ◌-◌, ◌*◌, ◌<◌, ◌≤◌, Bool, true, false, List, [], ◌∷◌, ◌++◌, length, get_or, set, reverse, replicate, Option, Some, None, refl, sym, ap, subst, ◌∙◌, arith, inl, inr, ◌⊎◌}
use Rattle.std.specs.Prelude.{◌||◌}
use Rattle.std.specs.List.{All, Contains}
use Rattle.std.specs.Ordering.{nat_cmp}
use Rattle.std.specs.BTreeSet.{insert_key}
use Rattle.std.proofs.Math.Nat.{mul-le-mul_left, mul-le-mul_right}
use Rattle.std.proofs.lemmas.Bool.{cases_lt, cases_eq}
use Rattle.std.proofs.lemmas.List.{get_or_append_left, get_or_push, length_push, get_or-set_same, get_or-set_other, get_or_past, length-set, append_assoc, append-nil, get_or-replicate, length-replicate, get_or-reverse, length-reverse, reverse-reverse}
use Rattle.std.proofs.lemmas.List.Elements.{All-contains, All-contains_itself, All-weaker}
use Rattle.vw_solver.specs.Solution.{state_at, IsCovered, IsSolution, IsLower, IsLeast, IsReached, HoldsReachedPoints, weight_from, weight_of, weights_from}
use Rattle.vw_solver.specs.Standing.{LandsOne, reaches, joins, IsTable, at_first, at_visit, at_landing, at_skip, RanksAtMost}
use Rattle.vw_solver.specs.search.Landing.{AllValid, AllHaveStates, Lands, kept, raised, reached, LandsAll, none, more, Visits, stay, visit}
use Rattle.vw_solver.specs.search.Visited.{Visited, VisitsFailed}
use Rattle.vw_solver.specs.search.Tables.{table_sum, held_rank, is_empty, ranks, empties}
use Rattle.vw_solver.proofs.Waiting.{Waits, total, total_insert, length_insert, waits_insert, waits_still, waits_from, all_from_waits, waits_from_all}

-- ---- items of a list

contains_head : {X : Type 0} (x : X) (xs : List X) → Contains (x ∷ xs) x
contains_head x xs = (0, omega arith, refl)

contains_cases : {X : Type 0} (x y : X) (xs : List X) → Contains (x ∷ xs) y → (x ≡ y) ⊎ Contains xs y
contains_cases {X} x y xs c = from c.0 c.1 c.2
  where
    from : (k : ℕ) → k < length (x ∷ xs) → get_or (x ∷ xs) k y ≡ y → (x ≡ y) ⊎ Contains xs y
    from zero within is = inl is
    from (suc k) within is = let inside : k < length xs = omega arith in inr (k, inside, is)

all_from_contains : {X : Type 0} (P : X → Type 0) (xs : List X) → ((x : X) → Contains xs x → P x) → All P xs
all_from_contains {X} P xs each = let C : X → Type 0 = Contains xs in All-weaker C P each xs (All-contains_itself xs)

pub all_front : {X : Type 0} (P : X → Type 0) (front : List X) (last : X) → All P (front ++ last ∷ []) → All P front
all_front {X} P front last all = λ k d within.
    rw (get_or_append_left front (last ∷ []) d k within) at (all k d (omega (arith, length_push front last)))

pub all_last : {X : Type 0} (P : X → Type 0) (front : List X) (last : X) → All P (front ++ last ∷ []) → P last
all_last {X} P front last all =
    rw (get_or_push front last last (length front) refl) at (all (length front) last (omega (arith, length_push front last)))

-- what a list holds, its reverse holds, and the other way round
contains_reverse : {X : Type 0} (xs : List X) (x : X) → Contains xs x → Contains (reverse xs) x
contains_reverse {X} xs x c =
    let size : length (reverse xs) ≡ length xs = length-reverse xs in
    let inside : c.0 < length xs = c.1 in
    let place : length xs - 1 - c.0 < length xs = omega arith in
    let back : length xs - 1 - (length xs - 1 - c.0) ≡ c.0 = omega arith in
    let read : get_or (reverse xs) (length xs - 1 - c.0) x ≡ get_or xs (length xs - 1 - (length xs - 1 - c.0)) x = get_or-reverse xs (length xs - 1 - c.0) x place in
    let same : get_or xs (length xs - 1 - (length xs - 1 - c.0)) x ≡ get_or xs c.0 x = ap (λ (k : ℕ). get_or xs k x) back in
    (length xs - 1 - c.0, omega (arith, size, place), read ∙ same ∙ c.2)

contains_forward : {X : Type 0} (xs : List X) (x : X) → Contains (reverse xs) x → Contains xs x
contains_forward {X} xs x c =
    let P : List X → Type 0 = λ ys. Contains ys x in
    subst P (reverse-reverse xs) (contains_reverse (reverse xs) x c)

-- ---- tables

pub same_state : {S : Type 0} (table : List (Option S)) (p : ℕ) (a b : S) → state_at table p ≡ Some a → state_at table p ≡ Some b → a ≡ b
same_state table p a b is_a is_b = cc

pub state_within : {S : Type 0} (table : List (Option S)) (p : ℕ) (s : S) → state_at table p ≡ Some s → p < length table
state_within {S} table p s is = elim (cases_lt p (length table)) [
  | inl within ↦ within
  | inr past ↦ let nothing : state_at table p ≡ None = get_or_past table p None past in absurd (cc)
]

found_or_not : {S : Type 0} (o : Option S) → ((s : S) × (o ≡ Some s)) ⊎ (o ≡ None)
found_or_not (Some s) = inl (s, refl)
found_or_not None = inr refl

pub table_sum_set : {S : Type 0} (f : ℕ → Option S → ℕ) (p q m : ℕ) (table : List (Option S)) (o : Option S) → m ≡ p + q → q < length table → table_sum f p (set table q o) + f m (state_at table q) ≡ table_sum f p table + f m o
table_sum_set f p q m [] o place within = absurd (omega arith)
table_sum_set f p zero m (x ∷ xs) o place within =
    let at : m ≡ p = omega arith in
    let F : ℕ → Type 0 = λ n. (f p o + table_sum f (suc p) xs) + f n x ≡ (f p x + table_sum f (suc p) xs) + f n o in
    subst F (sym at) (omega arith)
table_sum_set f p (suc q) m (x ∷ xs) o place within =
    omega (arith, table_sum_set f (suc p) q m xs o (omega arith) (omega arith))

table_sum_le : {S : Type 0} (f g : ℕ → Option S → ℕ) (p : ℕ) (table : List (Option S)) → ((q : ℕ) (o : Option S) → f q o ≤ g q o) → table_sum f p table ≤ table_sum g p table
table_sum_le f g p [] each = omega arith
table_sum_le f g p (o ∷ rest) each = omega (arith, each p o, table_sum_le f g (suc p) rest each)

-- what the rest of a state's rises can cost, if no rank is above r
abbrev pub cost : {S : Type 0} → (ℕ → ℕ) → (S → ℕ) → ℕ → ℕ → Option S → ℕ
cost weight rank r p None = 0
cost weight rank r p (Some s) = weight p * (r + 1 - rank s)

cost_at_most : {S : Type 0} (weight : ℕ → ℕ) (rank : S → ℕ) (r p : ℕ) (table : List (Option S)) → table_sum (cost weight rank r) p table ≤ weight_from weight p table * (r + 1)
cost_at_most weight rank r p [] = omega arith
cost_at_most weight rank r p (None ∷ rest) = omega (arith, cost_at_most weight rank r (suc p) rest)
cost_at_most weight rank r p (Some s ∷ rest) =
    let less : r + 1 - rank s ≤ r + 1 = omega arith in
    omega (arith, mul-le-mul_left (weight p) less, cost_at_most weight rank r (suc p) rest)

-- the points that have a state are some of all points
weight_within : {S : Type 0} (weight : ℕ → ℕ) (p : ℕ) (table : List (Option S)) → weight_from weight p table ≤ weights_from weight p (length table)
weight_within weight p [] = omega arith
weight_within weight p (None ∷ rest) = omega (arith, weight_within weight (suc p) rest)
weight_within weight p (Some s ∷ rest) = omega (arith, weight_within weight (suc p) rest)

-- ---- the laws

pub record Laws {S : Type 0} (below : S → S → Type 0) (is_valid : S → Type 0) (rank : S → ℕ) (edges : ℕ → S → List (ℕ × S)) (points : ℕ) : Type 0 where
  pub reflexive : (x : S) → is_valid x → below x x
  pub transitive : (x y z : S) → is_valid x → is_valid y → is_valid z → below x y → below y z → below x z
  pub falls : (x y : S) → is_valid x → is_valid y → below x y → rank y ≤ rank x
  pub strict : (x y : S) → is_valid x → is_valid y → below x y → rank x ≡ rank y → x ≡ y
  pub valid_edges : (p : ℕ) (x : S) → p < points → is_valid x → All (λ edge. is_valid edge.1) (edges p x)
  pub monotone : (p : ℕ) (x y : S) → p < points → is_valid x → is_valid y → below x y → All (λ edge. (u : S) × Contains (edges p y) (edge.0, u) × below edge.1 u) (edges p x)

-- ---- one state is raised, or put where there was none

record Raises {S : Type 0} (below : S → S → Type 0) (is_valid : S → Type 0) (table : List (Option S)) (q : ℕ) (join : S) : Type 0 where
  within : q < length table
  valid : is_valid join
  above : (a : S) → state_at table q ≡ Some a → below a join

pub at_same : {S : Type 0} (table : List (Option S)) (q : ℕ) (join : S) → q < length table → state_at (set table q (Some join)) q ≡ Some join
at_same {S} table q join within = get_or-set_same table q (Some join) None within

pub at_other : {S : Type 0} (table : List (Option S)) (q p : ℕ) (join : S) → p ≢ q → state_at (set table q (Some join)) p ≡ state_at table p
at_other {S} table q p join other = get_or-set_other table q p (Some join) None other

covered_still : {S : Type 0} (below : S → S → Type 0) (is_valid : S → Type 0) (rank : S → ℕ) (edges : ℕ → S → List (ℕ × S)) (points : ℕ) → Laws below is_valid rank edges points → (table : List (Option S)) (q : ℕ) (join : S) → AllValid is_valid table → Raises below is_valid table q join → (p : ℕ) (x : S) → is_valid x → IsCovered below table p x → IsCovered below (set table q (Some join)) p x
covered_still {S} below is_valid rank edges points laws table q join valid up p x valid_x covered =
    elim (cases_eq p q) [
      | inl same ↦
          let there : state_at table q ≡ Some covered.cover = subst (λ (n : ℕ). state_at table n ≡ Some covered.cover) same covered.there in
          record {
            cover = join;
            there = subst (λ (n : ℕ). state_at (set table q (Some join)) n ≡ Some join) (sym same) (at_same table q join up.within);
            is_below = laws.transitive x covered.cover join valid_x (valid q covered.cover there) up.valid covered.is_below (up.above covered.cover there);
          }
      | inr other ↦ record {
        cover = covered.cover;
        there = at_other table q p join other ∙ covered.there;
        is_below = covered.is_below;
      }
    ]

reached_still : {S : Type 0} (below : S → S → Type 0) (is_valid : S → Type 0) (rank : S → ℕ) (edges : ℕ → S → List (ℕ × S)) (points : ℕ) → Laws below is_valid rank edges points → (table : List (Option S)) (q : ℕ) (join : S) → q < points → AllValid is_valid table → Raises below is_valid table q join → (p : ℕ) → IsReached edges table p → IsReached edges (set table q (Some join)) p
reached_still {S} below is_valid rank edges points laws table q join inside valid up p by =
    elim (cases_eq by.from q) [
      | inl same ↦
          let there : state_at table q ≡ Some by.state = subst (λ (n : ℕ). state_at table n ≡ Some by.state) same by.there in
          let E : List (ℕ × S) → Type 0 = λ es. Contains es (p, by.carried) in
          let edge : Contains (edges q by.state) (p, by.carried) = ap_edge q same in
          let M : ℕ × S → Type 0 = λ e. (u : S) × Contains (edges q join) (e.0, u) × below e.1 u in
          let to = All-contains M (edges q by.state) (p, by.carried) (laws.monotone q by.state join inside (valid q by.state there) up.valid (up.above by.state there)) edge in
          record { from = q; state = join; there = at_same table q join up.within; carried = to.0; edge = to.1 }
      | inr other ↦ record { from = by.from; state = by.state; there = at_other table q by.from join other ∙ by.there; carried = by.carried; edge = by.edge }
    ]
  where
    ap_edge : (n : ℕ) → by.from ≡ n → Contains (edges n by.state) (p, by.carried)
    ap_edge n is = subst (λ (m : ℕ). Contains (edges m by.state) (p, by.carried)) is by.edge

-- ---- what the solver keeps

-- an edge that is still to land
pub record Pending {S : Type 0} (below : S → S → Type 0) (is_valid : S → Type 0) (edges : ℕ → S → List (ℕ × S)) (points start : ℕ) (first : S) (table : List (Option S)) (edge : ℕ × S) : Type 0 where
  pub valid : is_valid edge.1
  pub inside : edge.0 < points
  pub by_edge : IsReached edges table edge.0
  pub bound : (other : List (Option S)) → IsSolution below is_valid edges points start first other → IsCovered below other edge.0 edge.1

pub record Progress {S : Type 0} (below : S → S → Type 0) (is_valid : S → Type 0) (rank : S → ℕ) (edges : ℕ → S → List (ℕ × S)) (weight : ℕ → ℕ) (points start : ℕ) (first : S) (table : List (Option S)) (waiting : List ℕ) (pending : List (ℕ × S)) (ticks : ℕ) : Type 0 where
  pub size : length table ≡ points
  pub first_valid : is_valid first
  pub valid : AllValid is_valid table
  pub begins : IsCovered below table start first
  pub closed : (p : ℕ) (s : S) → state_at table p ≡ Some s → Waits waiting p ⊎ ((e : ℕ × S) → Contains (edges p s) e → IsCovered below table e.0 e.1 ⊎ Contains pending e)
  pub there : (p : ℕ) → Waits waiting p → (s : S) × (state_at table p ≡ Some s)
  pub least : (other : List (Option S)) → IsSolution below is_valid edges points start first other → IsLower below table other
  pub tight : (p : ℕ) (s : S) → state_at table p ≡ Some s → (p ≡ start) ⊎ IsReached edges table p
  pub stands : IsTable below is_valid edges points start first table pending
  pub pends : (e : ℕ × S) → Contains pending e → Pending below is_valid edges points start first table e
  pub paid : (r : ℕ) → RanksAtMost below is_valid edges points start first rank r → ticks + total weight waiting ≤ table_sum (cost weight rank r) 0 table

module _ {S : Type 0} (below : S → S → Type 0) (is_valid : S → Type 0) (rank : S → ℕ) (edges : ℕ → S → List (ℕ × S)) (weight : ℕ → ℕ) (points start : ℕ) (first : S) (laws : Laws below is_valid rank edges points) where
  raise_step : (table : List (Option S)) (waiting : List ℕ) (edge : ℕ × S) (rest : List (ℕ × S)) (ticks : ℕ) (join : S) → Progress below is_valid rank edges weight points start first table waiting (edge ∷ rest) ticks → Raises below is_valid table edge.0 join → below edge.1 join → ((other : List (Option S)) → IsSolution below is_valid edges points start first other → IsCovered below other edge.0 join) → (edge.0 ≡ start) ⊎ IsReached edges table edge.0 → LandsOne below is_valid table edge (set table edge.0 (Some join)) → ((r : ℕ) → RanksAtMost below is_valid edges points start first rank r → weight edge.0 + cost weight rank r edge.0 (state_at table edge.0) ≤ weight edge.0 * (r + 1 - rank join)) → Progress below is_valid rank edges weight points start first (set table edge.0 (Some join)) (insert_key nat_cmp waiting edge.0) rest ticks
  raise_step table waiting edge rest ticks join run up under bound by put pay =
      let q = edge.0 in
      let now = set table q (Some join) in
      let inside : q < points = omega (arith, run.size, up.within) in
      let here : state_at now q ≡ Some join = at_same table q join up.within in
      let old : (p : ℕ) (s : S) → p ≢ q → state_at now p ≡ Some s → state_at table p ≡ Some s = λ p s other is. sym (at_other table q p join other) ∙ is in
      let is_join : (p : ℕ) (s : S) → p ≡ q → state_at now p ≡ Some s → join ≡ s = λ p s same is. same_state now q join s here (subst (λ (n : ℕ). state_at now n ≡ Some s) same is) in
      record {
        size = length-set table q (Some join) ∙ run.size;
        first_valid = run.first_valid;
        valid = λ p s is. elim (cases_eq p q) [
          | inl same ↦ subst (λ (x : S). is_valid x) (is_join p s same is) up.valid
          | inr other ↦ run.valid p s (old p s other is)
        ];
        begins = covered_still below is_valid rank edges points laws table q join run.valid up start first run.first_valid run.begins;
        closed = λ p s is. elim (cases_eq p q) [
          | inl same ↦ inl (subst (λ (n : ℕ). Waits (insert_key nat_cmp waiting q) n) (sym same) (waits_insert waiting q))
          | inr other ↦ elim (run.closed p s (old p s other is)) [
            | inl waits ↦ inl (waits_still waiting q p waits)
            | inr each ↦ inr (λ e has. elim (each e has) [
              | inl covered ↦
                  let there = old p s other is in
                  let p_in : p < points = omega (arith, run.size, state_within table p s there) in
                  let V : ℕ × S → Type 0 = λ x. is_valid x.1 in
                  let valid_e = All-contains V (edges p s) e (laws.valid_edges p s p_in (run.valid p s there)) has in
                  inl (covered_still below is_valid rank edges points laws table q join run.valid up e.0 e.1 valid_e covered)
              | inr pends ↦ elim (contains_cases edge e rest pends) [
                | inl same ↦
                    let C : ℕ × S → Type 0 = λ x. IsCovered below now x.0 x.1 in
                    inl (subst C same (record { cover = join; there = here; is_below = under }))
                | inr later ↦ inr later
              ]
            ])
          ]
        ];
        there = λ p waits. elim (cases_eq p q) [
          | inl same ↦ (join, subst (λ (n : ℕ). state_at now n ≡ Some join) (sym same) here)
          | inr other ↦ elim (waits_from waiting q p waits) [
            | inl is ↦ absurd (other (sym is))
            | inr before ↦ let state = run.there p before in (state.0, at_other table q p join other ∙ state.1)
          ]
        ];
        least = λ u solution p s is. elim (cases_eq p q) [
          | inl same ↦
              let C : S → Type 0 = λ x. IsCovered below u p x in
              let D : ℕ → Type 0 = λ n. IsCovered below u n join in
              subst C (is_join p s same is) (subst D (sym same) (bound u solution))
          | inr other ↦ run.least u solution p s (old p s other is)
        ];
        tight = λ p s is. elim (cases_eq p q) [
          | inl same ↦ elim by [
            | inl begins ↦ inl (same ∙ begins)
            | inr from ↦
                let R : ℕ → Type 0 = λ n. IsReached edges now n in
                inr (subst R (sym same) (reached_still below is_valid rank edges points laws table q join inside run.valid up q from))
          ]
          | inr other ↦ elim (run.tight p s (old p s other is)) [
            | inl begins ↦ inl begins
            | inr from ↦ inr (reached_still below is_valid rank edges points laws table q join inside run.valid up p from)
          ]
        ];
        stands = at_landing table now edge rest run.stands put;
        pends = λ e has.
            let before = run.pends e (pends_later edge e rest has) in
            record {
              valid = before.valid;
              inside = before.inside;
              bound = before.bound;
              by_edge = reached_still below is_valid rank edges points laws table q join inside run.valid up e.0 before.by_edge;
            };
        paid = λ r most.
            let place : q ≡ 0 + q = omega arith in
            omega (arith, run.paid r most, total_insert weight waiting q, pay r most, table_sum_set (cost weight rank r) 0 q q table (Some join) place up.within);
      }
    where
      pends_later : (x y : ℕ × S) (xs : List (ℕ × S)) → Contains xs y → Contains (x ∷ xs) y
      pends_later x y xs c = (suc c.0, omega (arith, c.1), c.2)

  -- one edge lands
  land_step : (table : List (Option S)) (waiting : List ℕ) (edge : ℕ × S) (rest : List (ℕ × S)) (ticks : ℕ) (new : List (Option S)) (now : List ℕ) (met : Bool) → Progress below is_valid rank edges weight points start first table waiting (edge ∷ rest) ticks → Lands below is_valid table waiting edge new now met → Progress below is_valid rank edges weight points start first new now rest ticks
  land_step table waiting edge rest ticks new now met run (kept there is valid_there join) = record {
    size = run.size;
    first_valid = run.first_valid;
    valid = run.valid;
    begins = run.begins;
    closed = λ p s at. elim (run.closed p s at) [
      | inl waits ↦ inl waits
      | inr each ↦ inr (λ e has. elim (each e has) [
        | inl covered ↦ inl covered
        | inr pends ↦ elim (contains_cases edge e rest pends) [
          | inl same ↦
              let C : ℕ × S → Type 0 = λ x. IsCovered below table x.0 x.1 in
              inl (subst C same (record { cover = there; there = is; is_below = join.above_right }))
          | inr later ↦ inr later
        ]
      ])
    ];
    there = run.there;
    least = run.least;
    tight = run.tight;
    stands = at_skip table edge rest run.stands;
    pends = λ e has. run.pends e (suc has.0, omega (arith, has.1), has.2);
    paid = run.paid;
  }
  land_step table waiting edge rest ticks new now met run (raised there join is valid_there least differs) =
      let pending = run.pends edge (contains_head edge rest) in
      let falls : rank join ≤ rank there = laws.falls there join valid_there least.valid least.above_left in
      let unequal : rank there ≢ rank join = λ same. differs (sym (laws.strict there join valid_there least.valid least.above_left same)) in
      raise_step table waiting edge rest ticks join run
      (record {
        within = state_within table edge.0 there is;
        valid = least.valid;
        above = λ a at. subst (λ (x : S). below x join) (same_state table edge.0 there a is at) least.above_left;
      })
      least.above_right
      (λ other solution.
      let mine = run.least other solution edge.0 there is in
      let theirs = pending.bound other solution in
      let one = same_state other edge.0 mine.cover theirs.cover mine.there theirs.there in
      let valid_cover = solution.valid edge.0 theirs.cover theirs.there in
      let under = subst (λ (x : S). below there x) one mine.is_below in
      record { cover = theirs.cover; there = theirs.there; is_below = least.least theirs.cover valid_cover under theirs.is_below })
      (run.tight edge.0 there is)
      (joins there join is least)
      (λ r most.
      let at_most : rank there ≤ r = most edge.0 there (record { table = table; pending = edge ∷ rest; is_table = run.stands; there = is }) in
      let step : (r + 1 - rank there) + 1 ≤ r + 1 - rank join = omega arith in
      let was : cost weight rank r edge.0 (state_at table edge.0) ≡ weight edge.0 * (r + 1 - rank there) = ap (λ (o : Option S). cost weight rank r edge.0 o) is in
      omega (arith, mul-le-mul_left (weight edge.0) step, was))
  land_step table waiting edge rest ticks new now met run (reached nothing within) =
      let pending = run.pends edge (contains_head edge rest) in
      raise_step table waiting edge rest ticks edge.1 run
      (record { within = within; valid = pending.valid; above = λ a at. let both : None ≡ Some a = sym nothing ∙ at in absurd (cc) })
      (laws.reflexive edge.1 pending.valid)
      pending.bound
      (inr pending.by_edge)
      (reaches within nothing)
      (λ r most.
      let at_most : rank edge.1 ≤ r = most edge.0 edge.1 (record { table = set table edge.0 (Some edge.1); pending = rest; is_table = at_landing table (set table edge.0 (Some edge.1)) edge rest run.stands (reaches within nothing); there = at_same table edge.0 edge.1 within }) in
      let step : 1 ≤ r + 1 - rank edge.1 = omega arith in
      let was : cost weight rank r edge.0 (state_at table edge.0) ≡ 0 = ap (λ (o : Option S). cost weight rank r edge.0 o) nothing in
      omega (arith, mul-le-mul_left (weight edge.0) step, was))

  -- and all edges of a list
  land_all_step : (table : List (Option S)) (waiting : List ℕ) (list : List (ℕ × S)) (rest : List (ℕ × S)) (ticks : ℕ) (new : List (Option S)) (now : List ℕ) (met : Bool) → Progress below is_valid rank edges weight points start first table waiting (list ++ rest) ticks → LandsAll below is_valid table waiting list new now met → Progress below is_valid rank edges weight points start first new now rest ticks
  land_all_step table waiting list rest ticks new now met run none = run
  land_all_step table waiting list rest ticks new now met run (more list' edge middle waits before new' now' met' chain last) =
      let P : List (ℕ × S) → Type 0 = λ es. Progress below is_valid rank edges weight points start first table waiting es ticks in
      let run' = subst P (append_assoc list' (edge ∷ []) rest) run in
      land_step middle waits edge rest ticks new now met' (land_all_step table waiting list' (edge ∷ rest) ticks middle waits before run' chain) last

  -- a point stops waiting, and its edges are to land
  visit_step : (table : List (Option S)) (point : ℕ) (rest : List ℕ) (ticks : ℕ) (state : S) → Progress below is_valid rank edges weight points start first table (point ∷ rest) [] ticks → state_at table point ≡ Some state → All (λ edge. edge.0 < points) (edges point state) → Progress below is_valid rank edges weight points start first table rest (reverse (edges point state)) (ticks + weight point)
  visit_step table point rest ticks state run is targets =
      let point_in : point < points = omega (arith, run.size, state_within table point state is) in
      let valid_state = run.valid point state is in
      record {
        size = run.size;
        first_valid = run.first_valid;
        valid = run.valid;
        begins = run.begins;
        closed = λ p s at. elim (run.closed p s at) [
          | inl waits ↦ elim waits [
            | inl same ↦
                let at_point : state_at table point ≡ Some s = subst (λ (n : ℕ). state_at table n ≡ Some s) (sym same) at in
                let one : s ≡ state = same_state table point s state at_point is in
                inr (λ e has. inr (contains_reverse (edges point state) e (moved p s e same one has)))
            | inr later ↦ inl later
          ]
          | inr each ↦ inr (λ e has. elim (each e has) [
            | inl covered ↦ inl covered
            | inr pends ↦ absurd (no_items e pends)
          ])
        ];
        there = λ p waits. run.there p (inr waits);
        least = run.least;
        tight = run.tight;
        stands = at_visit table [] (reverse (edges point state)) point state run.stands is (λ e c. contains_forward (edges point state) e c);
        pends = λ e pends.
            let has = contains_forward (edges point state) e pends in
            let V : ℕ × S → Type 0 = λ x. is_valid x.1 in
            let T : ℕ × S → Type 0 = λ x. x.0 < points in
            record {
              valid = All-contains V (edges point state) e (laws.valid_edges point state point_in valid_state) has;
              inside = All-contains T (edges point state) e targets has;
              by_edge = record { from = point; state = state; there = is; carried = e.1; edge = has };
              bound = λ other solution.
                  let covered = run.least other solution point state is in
                  let above = solution.valid point covered.cover covered.there in
                  let M : ℕ × S → Type 0 = λ x. (u : S) × Contains (edges point covered.cover) (x.0, u) × below x.1 u in
                  let C : ℕ × S → Type 0 = λ x. IsCovered below other x.0 x.1 in
                  let to = All-contains M (edges point state) e (laws.monotone point state covered.cover point_in valid_state above covered.is_below) has in
                  let lands = All-contains C (edges point covered.cover) (e.0, to.0) (solution.closed point covered.cover covered.there) to.1 in
                  let valid_e = All-contains V (edges point state) e (laws.valid_edges point state point_in valid_state) has in
                  let valid_u = All-contains V (edges point covered.cover) (e.0, to.0) (laws.valid_edges point covered.cover point_in above) to.1 in
                  record { cover = lands.cover; there = lands.there; is_below = laws.transitive e.1 to.0 lands.cover valid_e valid_u (solution.valid e.0 lands.cover lands.there) to.2 lands.is_below };
            };
        paid = λ r most. omega (arith, run.paid r most);
      }
    where
      no_items : (e : ℕ × S) → Contains [] e → ⊥
      no_items e c = let inside : c.0 < 0 = c.1 in absurd (omega arith)

      moved : (p : ℕ) (s : S) (e : ℕ × S) → point ≡ p → s ≡ state → Contains (edges p s) e → Contains (edges point state) e
      moved p s e same one has =
          let A : ℕ → Type 0 = λ n. Contains (edges n s) e in
          let B : S → Type 0 = λ x. Contains (edges point x) e in
          subst B one (subst A (sym same) has)

  pub visits_step : (table : List (Option S)) (waiting : List ℕ) (ticks more_ticks : ℕ) (new : List (Option S)) (now : List ℕ) → Progress below is_valid rank edges weight points start first table waiting [] ticks → Visits below is_valid edges weight points table waiting more_ticks new now → Progress below is_valid rank edges weight points start first new now [] (ticks + more_ticks)
  visits_step table waiting ticks more_ticks new now run stay =
      let P : ℕ → Type 0 = λ n. Progress below is_valid rank edges weight points start first table waiting [] n in
      let same : ticks ≡ ticks + 0 = omega arith in
      subst P same run
  visits_step table waiting ticks more_ticks new now run (visit before middle point rest state new' now' met visits is targets lands) =
      let run' = visits_step table waiting ticks before middle (point ∷ rest) run visits in
      let visited = visit_step middle point rest (ticks + before) state run' is targets in
      let P : List (ℕ × S) → Type 0 = λ es. Progress below is_valid rank edges weight points start first middle rest es ((ticks + before) + weight point) in
      let last = reverse (edges point state) in
      let whole : last ≡ last ++ [] = sym (append-nil last) in
      let landed = land_all_step middle rest last [] ((ticks + before) + weight point) new now met (subst P whole visited) lands in
      let Q : ℕ → Type 0 = λ n. Progress below is_valid rank edges weight points start first new now [] n in
      let sums : (ticks + before) + weight point ≡ ticks + (before + weight point) = omega arith in
      subst Q sums landed

  -- before the first visit: the start alone has a state, and waits
  pub first_progress : (table : List (Option S)) → table ≡ set (replicate points None) start (Some first) → start < points → is_valid first → Progress below is_valid rank edges weight points start first table (start ∷ []) [] 0
  first_progress table table_is start_in valid_first =
      let empty : List (Option S) = replicate points None in
      let made = set (replicate points None) start (Some first) in
      let P : List (Option S) → Type 0 = λ t. Progress below is_valid rank edges weight points start first t (start ∷ []) [] 0 in
      let size : length empty ≡ points = length-replicate points None in
      let within : start < length empty = omega arith in
      let here : state_at made start ≡ Some first = at_same empty start first within in
      let alone : (p : ℕ) (s : S) → state_at made p ≡ Some s → (p ≡ start) × (first ≡ s) = λ p s is. elim (cases_eq p start) [
        | inl same ↦ (same, same_state made start first s here (subst (λ (n : ℕ). state_at made n ≡ Some s) same is))
        | inr other ↦ absurd (not_empty points p s (sym (at_other empty start p first other) ∙ is))
      ] in
      subst P (sym table_is) (record {
        size = length-set empty start (Some first) ∙ size;
        first_valid = valid_first;
        valid = λ p s is. subst (λ (x : S). is_valid x) (alone p s is).1 valid_first;
        begins = record { cover = first; there = here; is_below = laws.reflexive first valid_first };
        closed = λ p s is. inl (inl (sym (alone p s is).0));
        there = λ p waits. elim waits [
          | inl same ↦ (first, subst (λ (n : ℕ). state_at made n ≡ Some first) same here)
          | inr never ↦ absurd never
        ];
        least = λ other solution p s is.
            let C : ℕ → Type 0 = λ n. IsCovered below other n first in
            let D : S → Type 0 = λ x. IsCovered below other p x in
            subst D (alone p s is).1 (subst C (sym (alone p s is).0) solution.begins);
        tight = λ p s is. inl (alone p s is).0;
        stands = at_first start_in;
        pends = λ e has. let inside : has.0 < 0 = has.1 in absurd (omega arith);
        paid = λ r most.
            let place : start ≡ 0 + start = omega arith in
            let at_most : rank first ≤ r = most start first (record { table = made; pending = []; is_table = at_first start_in; there = here }) in
            let step : 1 ≤ r + 1 - rank first = omega arith in
            let nothing : state_at empty start ≡ None = empty_at points start in
            let was : cost weight rank r start (state_at empty start) ≡ 0 = ap (λ (o : Option S). cost weight rank r start o) nothing in
            omega (arith, mul-le-mul_left (weight start) step, was, table_sum_set (cost weight rank r) 0 start start empty (Some first) place within);
      })
    where
      empty_at : (n p : ℕ) → state_at {S = S} (replicate n None) p ≡ None
      empty_at n p =
          let nothing : Option S = None in
          elim (cases_lt p n) [
            | inl within ↦ get_or-replicate n p nothing nothing within
            | inr past ↦ get_or_past (replicate n nothing) p nothing (omega (arith, length-replicate n nothing))
          ]

      not_empty : (n p : ℕ) (s : S) → state_at (replicate n None) p ≡ Some s → ⊥
      not_empty n p s is = let both : None ≡ Some s = sym (empty_at n p) ∙ is in absurd (cc)

  -- when no point waits
  pub finish : (table : List (Option S)) (ticks : ℕ) → Progress below is_valid rank edges weight points start first table [] [] ticks → IsLeast below is_valid edges points start first table
  finish table ticks run = record {
    solution = record {
      size = run.size;
      valid = run.valid;
      begins = run.begins;
      closed = λ p s is.
          let C : ℕ × S → Type 0 = λ e. IsCovered below table e.0 e.1 in
          all_from_contains C (edges p s) (λ e has. elim (run.closed p s is) [
            | inl waits ↦ absurd waits
            | inr each ↦ elim (each e has) [ inl covered ↦ covered | inr pends ↦ let inside : pends.0 < 0 = pends.1 in absurd (omega arith) ]
          ]);
    };
    least = run.least;
  }

  pub finish_reached : (table : List (Option S)) (ticks : ℕ) → Progress below is_valid rank edges weight points start first table [] [] ticks → HoldsReachedPoints edges start table
  finish_reached table ticks run =
      let solution = (finish table ticks run).solution in
      record {
        reached = run.tight;
        unreached = λ p nothing. (
          λ same.
              let at_start : state_at table start ≡ None = subst (λ (n : ℕ). state_at table n ≡ None) same nothing in
              let both : None ≡ Some run.begins.cover = sym at_start ∙ run.begins.there in absurd (cc),
          λ by.
              let C : ℕ × S → Type 0 = λ e. IsCovered below table e.0 e.1 in
              let covered = All-contains C (edges by.from by.state) (p, by.carried) (solution.closed by.from by.state by.there) by.edge in
              let both : None ≡ Some covered.cover = sym nothing ∙ covered.there in absurd (cc),
        );
      }

  pub finish_ticks : (table : List (Option S)) (ticks : ℕ) → Progress below is_valid rank edges weight points start first table [] [] ticks → (r : ℕ) → RanksAtMost below is_valid edges points start first rank r → ticks ≤ weight_of weight table * (r + 1)
  finish_ticks table ticks run r most = omega (arith, run.paid r most, cost_at_most weight rank r 0 table)

  -- the steps so far, and those of the points that wait, are within the weights of all points
  pub within_bound : (table : List (Option S)) (waiting : List ℕ) (ticks : ℕ) → Progress below is_valid rank edges weight points start first table waiting [] ticks → (r : ℕ) → RanksAtMost below is_valid edges points start first rank r → ticks + total weight waiting ≤ weights_from weight 0 points * (r + 1)
  within_bound table waiting ticks run r most =
      let B : ℕ → Type 0 = λ n. weight_from weight 0 table ≤ weights_from weight 0 n in
      let all = subst B run.size (weight_within weight 0 table) in
      omega (arith, run.paid r most, cost_at_most weight rank r 0 table, mul-le-mul_right (r + 1) all)

  pub failed_bound : (table : List (Option S)) (waiting : List ℕ) (ticks extra : ℕ) → Progress below is_valid rank edges weight points start first table waiting [] ticks → VisitsFailed below is_valid edges weight points table waiting extra → (r : ℕ) → RanksAtMost below is_valid edges points start first rank r → ticks + extra ≤ weights_from weight 0 points * (r + 1)
  failed_bound table waiting ticks extra run failed r most =
      let before = visits_step table waiting ticks failed.ticks failed.middle (failed.point ∷ failed.rest) run failed.visits in
      omega (arith, within_bound failed.middle (failed.point ∷ failed.rest) (ticks + failed.ticks) before r most, failed.counted)

-- ---- what each landing keeps, for the code

module _ {S : Type 0} (below : S → S → Type 0) (is_valid : S → Type 0) where
  pub lands_length : (table : List (Option S)) (waiting : List ℕ) (edge : ℕ × S) (new : List (Option S)) (now : List ℕ) (met : Bool) → Lands below is_valid table waiting edge new now met → length new ≡ length table
  lands_length table waiting edge new now met (kept there is valid_there join) = refl
  lands_length table waiting edge new now met (raised there join is valid_there least differs) = length-set table edge.0 (Some join)
  lands_length table waiting edge new now met (reached nothing within) = length-set table edge.0 (Some edge.1)

  valid_set : (table : List (Option S)) (q : ℕ) (join : S) → q < length table → AllValid is_valid table → is_valid join → AllValid is_valid (set table q (Some join))
  valid_set table q join within valid valid_join = λ p s is. elim (cases_eq p q) [
    | inl same ↦
        let one = same_state (set table q (Some join)) q join s (at_same table q join within) (subst (λ (n : ℕ). state_at (set table q (Some join)) n ≡ Some s) same is) in
        subst (λ (x : S). is_valid x) one valid_join
    | inr other ↦ valid p s (sym (at_other table q p join other) ∙ is)
  ]

  pub lands_valid : (table : List (Option S)) (waiting : List ℕ) (edge : ℕ × S) (new : List (Option S)) (now : List ℕ) (met : Bool) → Lands below is_valid table waiting edge new now met → is_valid edge.1 → AllValid is_valid table → AllValid is_valid new
  lands_valid table waiting edge new now met (kept there is valid_there join) valid_edge valid = valid
  lands_valid table waiting edge new now met (raised there join is valid_there least differs) valid_edge valid = valid_set table edge.0 join (state_within table edge.0 there is) valid least.valid
  lands_valid table waiting edge new now met (reached nothing within) valid_edge valid = valid_set table edge.0 edge.1 within valid valid_edge

  waits_set : (table : List (Option S)) (waiting : List ℕ) (q : ℕ) (join : S) → q < length table → AllHaveStates table waiting → AllHaveStates (set table q (Some join)) (insert_key nat_cmp waiting q)
  waits_set table waiting q join within all =
      let H : ℕ → Type 0 = λ p. (s : S) × (state_at (set table q (Some join)) p ≡ Some s) in
      let G : ℕ → Type 0 = λ p. (s : S) × (state_at table p ≡ Some s) in
      all_from_waits H (insert_key nat_cmp waiting q) (λ p waits. elim (cases_eq p q) [
        | inl same ↦ (join, subst (λ (n : ℕ). state_at (set table q (Some join)) n ≡ Some join) (sym same) (at_same table q join within))
        | inr other ↦ elim (waits_from waiting q p waits) [
          | inl is ↦ absurd (other (sym is))
          | inr before ↦ let state = waits_from_all G waiting p all before in (state.0, at_other table q p join other ∙ state.1)
        ]
      ])

  pub lands_waits : (table : List (Option S)) (waiting : List ℕ) (edge : ℕ × S) (new : List (Option S)) (now : List ℕ) (met : Bool) → Lands below is_valid table waiting edge new now met → AllHaveStates table waiting → AllHaveStates new now
  lands_waits table waiting edge new now met (kept there is valid_there join) all = all
  lands_waits table waiting edge new now met (raised there join is valid_there least differs) all = waits_set table waiting edge.0 join (state_within table edge.0 there is) all
  lands_waits table waiting edge new now met (reached nothing within) all = waits_set table waiting edge.0 edge.1 within all

  -- A landing that meets no new point lowers the ranks by more than it makes wait; one that does leaves
  -- fewer points without a state.
  pub record Measured (rank : S → ℕ) (table : List (Option S)) (waiting : List ℕ) (new : List (Option S)) (now : List ℕ) (met : Bool) : Type 0 where
    pub old : met ≡ false → 2 * ranks rank new + length now ≤ 2 * ranks rank table + length waiting
    pub fewer : met ≡ true → empties new < empties table
    pub no_more : empties new ≤ empties table

  pub lands_measured : (rank : S → ℕ) → ((x y : S) → is_valid x → is_valid y → below x y → rank y ≤ rank x) → ((x y : S) → is_valid x → is_valid y → below x y → rank x ≡ rank y → x ≡ y) → (table : List (Option S)) (waiting : List ℕ) (edge : ℕ × S) (new : List (Option S)) (now : List ℕ) (met : Bool) → Lands below is_valid table waiting edge new now met → Measured rank table waiting new now met
  lands_measured rank falls strict table waiting edge new now met (kept there is valid_there join) =
      record { old = λ _. omega arith; fewer = λ e. absurd (cc); no_more = omega arith }
  lands_measured rank falls strict table waiting edge new now met (raised there join is valid_there least differs) =
      let q = edge.0 in
      let within = state_within table q there is in
      let place : q ≡ 0 + q = omega arith in
      let lower : rank join ≤ rank there = falls there join valid_there least.valid least.above_left in
      let unequal : rank there ≢ rank join = λ same. differs (sym (strict there join valid_there least.valid least.above_left same)) in
      let was : held_rank rank q (state_at table q) ≡ rank there = ap (λ (o : Option S). held_rank rank q o) is in
      let full : is_empty {S = S} q (state_at table q) ≡ 0 = ap (λ (o : Option S). is_empty q o) is in
      let sums = table_sum_set (held_rank rank) 0 q q table (Some join) place within in
      let counts = table_sum_set is_empty 0 q q table (Some join) place within in
      record {
        old = λ _. omega (arith, was, sums, length_insert waiting q);
        fewer = λ e. absurd (cc);
        no_more = omega (arith, full, counts);
      }
  lands_measured rank falls strict table waiting edge new now met (reached nothing within) =
      let q = edge.0 in
      let place : q ≡ 0 + q = omega arith in
      let void : is_empty {S = S} q (state_at table q) ≡ 1 = ap (λ (o : Option S). is_empty q o) nothing in
      let counts = table_sum_set is_empty 0 q q table (Some edge.1) place within in
      record { old = λ e. absurd (cc); fewer = λ _. omega (arith, void, counts); no_more = omega (arith, void, counts) }

  -- one landing after others
  measured_more : (rank : S → ℕ) (table : List (Option S)) (waiting : List ℕ) (middle : List (Option S)) (waits : List ℕ) (new : List (Option S)) (now : List ℕ) (before first : Bool) → Measured rank table waiting middle waits before → Measured rank middle waits new now first → Measured rank table waiting new now (before || first)
  measured_more rank table waiting middle waits new now true first one two = record {
    old = λ e. absurd (cc);
    fewer = λ _. omega (arith, one.fewer refl, two.no_more);
    no_more = omega (arith, one.no_more, two.no_more);
  }
  measured_more rank table waiting middle waits new now false first one two = record {
    old = λ is. omega (arith, one.old refl, two.old is);
    fewer = λ is. omega (arith, one.no_more, two.fewer is);
    no_more = omega (arith, one.no_more, two.no_more);
  }

  -- what landing a list of edges keeps
  pub record Landed (rank : S → ℕ) (table : List (Option S)) (waiting : List ℕ) (new : List (Option S)) (now : List ℕ) (met : Bool) : Type 0 where
    pub size : length new ≡ length table
    pub valid : AllValid is_valid new
    pub waits : AllHaveStates new now
    pub measured : Measured rank table waiting new now met

  pub landed : (rank : S → ℕ) → ((x y : S) → is_valid x → is_valid y → below x y → rank y ≤ rank x) → ((x y : S) → is_valid x → is_valid y → below x y → rank x ≡ rank y → x ≡ y) → (table : List (Option S)) (waiting : List ℕ) (edges : List (ℕ × S)) (new : List (Option S)) (now : List ℕ) (met : Bool) → LandsAll below is_valid table waiting edges new now met → All (λ e. is_valid e.1) edges → AllValid is_valid table → AllHaveStates table waiting → Landed rank table waiting new now met
  landed rank falls strict table waiting edges new now met none valid_edges valid waits = record {
    size = refl;
    valid = valid;
    waits = waits;
    measured = record { old = λ _. omega arith; fewer = λ e. absurd (cc); no_more = omega arith };
  }
  landed rank falls strict table waiting edges new now met (more edges' edge middle waits' before new' now' first chain last) valid_edges valid waits =
      let V : ℕ × S → Type 0 = λ e. is_valid e.1 in
      let earlier = landed rank falls strict table waiting edges' middle waits' before chain (all_front V edges' edge valid_edges) valid waits in
      let valid_edge = all_last V edges' edge valid_edges in
      record {
        size = lands_length middle waits' edge new now first last ∙ earlier.size;
        valid = lands_valid middle waits' edge new now first last valid_edge earlier.valid;
        waits = lands_waits middle waits' edge new now first last earlier.waits;
        measured = measured_more rank table waiting middle waits' new now before first earlier.measured (lands_measured rank falls strict middle waits' edge new now first last);
      }

-- ---- visits, as the code makes them

pub record Settling {S : Type 0} (below : S → S → Type 0) (is_valid : S → Type 0) (edges : ℕ → S → List (ℕ × S)) (weight : ℕ → ℕ) (points : ℕ) (began : List (Option S)) (waited : List ℕ) (table : List (Option S)) (waiting : List ℕ) (ticks : ℕ) : Type 0 where
  pub size : length table ≡ points
  pub valid : AllValid is_valid table
  pub waits : AllHaveStates table waiting
  pub no_more : empties table ≤ empties began
  pub visits : Visits below is_valid edges weight points began waited ticks table waiting

pub record SettlesMore {S : Type 0} (below : S → S → Type 0) (is_valid : S → Type 0) (rank : S → ℕ) (edges : ℕ → S → List (ℕ × S)) (weight : ℕ → ℕ) (points : ℕ) (began : List (Option S)) (waited : List ℕ) (table : List (Option S)) (waiting : List ℕ) (new : List (Option S)) (now : List ℕ) (met : Bool) (ticks : ℕ) : Type 0 where
  pub run : Settling below is_valid edges weight points began waited new now ticks
  pub smaller : met ≡ false → 2 * ranks rank new + length now < 2 * ranks rank table + length waiting
  pub fewer : met ≡ true → empties new < empties began

pub settles_more : {S : Type 0} (below : S → S → Type 0) (is_valid : S → Type 0) (rank : S → ℕ) (edges : ℕ → S → List (ℕ × S)) (weight : ℕ → ℕ) (points : ℕ) → Laws below is_valid rank edges points → (began : List (Option S)) (waited : List ℕ) (table : List (Option S)) (point : ℕ) (rest : List ℕ) (new : List (Option S)) (now : List ℕ) (met : Bool) (ticks : ℕ) → Settling below is_valid edges weight points began waited table (point ∷ rest) ticks → Visited below is_valid edges points point table rest new now met → SettlesMore below is_valid rank edges weight points began waited table (point ∷ rest) new now met (ticks + weight point)
settles_more {S} below is_valid rank edges weight points laws began waited table point rest new now met ticks run visited =
    let G : ℕ → Type 0 = λ p. (s : S) × (state_at table p ≡ Some s) in
    let waits_rest : AllHaveStates table rest = all_from_waits G rest (λ p waits. waits_from_all G (point ∷ rest) p run.waits (inr waits)) in
    let inside : point < points = omega (arith, run.size, state_within table point visited.state visited.there) in
    let V : ℕ × S → Type 0 = λ e. is_valid e.1 in
    let list = edges point visited.state in
    let valid_list = laws.valid_edges point visited.state inside (run.valid point visited.state visited.there) in
    let valid_edges = all_from_contains V (reverse list) (λ e c. All-contains V list e valid_list (contains_forward list e c)) in
    let all = landed below is_valid rank laws.falls laws.strict table rest (reverse list) new now met visited.lands valid_edges run.valid waits_rest in
    record {
      run = record {
        size = all.size ∙ run.size;
        valid = all.valid;
        waits = all.waits;
        no_more = omega (arith, all.measured.no_more, run.no_more);
        visits = visit ticks table point rest visited.state new now met run.visits visited.there visited.targets visited.lands;
      };
      smaller = λ is. omega (arith, all.measured.old is);
      fewer = λ is. omega (arith, all.measured.fewer is, run.no_more);
    }

pub settle_visit : {S : Type 0} (below : S → S → Type 0) (is_valid : S → Type 0) (rank : S → ℕ) (edges : ℕ → S → List (ℕ × S)) (weight : ℕ → ℕ) (points : ℕ) → Laws below is_valid rank edges points → (began : List (Option S)) (waited : List ℕ) (table : List (Option S)) (keys : List ℕ) (point : ℕ) (rest : List ℕ) (new : List (Option S)) (now : List ℕ) (met : Bool) (initial before after : ℕ) → keys ≡ point ∷ rest → initial ≤ before → after ≡ before + weight point → Settling below is_valid edges weight points began waited table keys (before - initial) → Visited below is_valid edges points point table rest new now met → SettlesMore below is_valid rank edges weight points began waited table keys new now met (after - initial)
settle_visit {S} below is_valid rank edges weight points laws began waited table keys point rest new now met initial before after keys_are counts ticks run visited =
    let R : List ℕ → Type 0 = λ ks. Settling below is_valid edges weight points began waited table ks (before - initial) in
    let step = settles_more below is_valid rank edges weight points laws began waited table point rest new now met (before - initial) (subst R keys_are run) visited in
    let M : List ℕ → Type 0 = λ ks. SettlesMore below is_valid rank edges weight points began waited table ks new now met (after - initial) in
    let N : ℕ → Type 0 = λ n. SettlesMore below is_valid rank edges weight points began waited table (point ∷ rest) new now met n in
    let sums : (before - initial) + weight point ≡ after - initial = omega arith in
    subst M (sym keys_are) (subst N sums step)

pub settle_start : {S : Type 0} (below : S → S → Type 0) (is_valid : S → Type 0) (edges : ℕ → S → List (ℕ × S)) (weight : ℕ → ℕ) (points : ℕ) (table : List (Option S)) (waiting : List ℕ) (steps : ℕ) → length table ≡ points → AllValid is_valid table → AllHaveStates table waiting → Settling below is_valid edges weight points table waiting table waiting (steps - steps)
settle_start {S} below is_valid edges weight points table waiting steps size valid waits =
    let N : ℕ → Type 0 = λ n. Settling below is_valid edges weight points table waiting table waiting n in
    let nothing : 0 ≡ steps - steps = omega arith in
    subst N nothing (record { size = size; valid = valid; waits = waits; no_more = omega arith; visits = stay })

pub all_wait : {S : Type 0} (below : S → S → Type 0) (is_valid : S → Type 0) (rank : S → ℕ) (edges : ℕ → S → List (ℕ × S)) (weight : ℕ → ℕ) (points start : ℕ) (first : S) (table : List (Option S)) (waiting : List ℕ) (ticks : ℕ) → Progress below is_valid rank edges weight points start first table waiting [] ticks → AllHaveStates table waiting
all_wait {S} below is_valid rank edges weight points start first table waiting ticks run =
    let G : ℕ → Type 0 = λ p. (s : S) × (state_at table p ≡ Some s) in
    all_from_waits G waiting run.there
