-- What holds of each state that stands in a table while edges land, and how large it can be.
use Rattle.std.proofs.Common.{◌≡◌, ℕ, zero, suc, ◌+◌, ◌*◌, ◌<◌, ◌≤◌, List, ◌∷◌, length, set, replicate, Option, Some, None, refl, sym, ap, subst, ◌∙◌, arith, inl, inr, All}
use Rattle.std.specs.List.{Contains}
use Rattle.std.proofs.lemmas.Bool.{cases_lt, cases_eq}
use Rattle.std.proofs.lemmas.List.{get_or_past, length-set, get_or-replicate, length-replicate}
use Rattle.std.proofs.lemmas.List.Elements.{All-contains}
use Rattle.vw_lattice.specs.Order.{IsJoin}
use Rattle.vw_solver.specs.Solution.{state_at}
use Rattle.vw_solver.specs.Standing.{reaches, joins, IsTable, at_first, at_visit, at_landing, at_skip, IsStanding}
use Rattle.vw_solver.specs.search.Tables.{table_sum, is_empty, empties}
use Rattle.vw_graph.proofs.Members.{contains_head, contains_tail, contains_none}
use Rattle.vw_solver.proofs.Search.{same_state, state_within, table_sum_set, at_same, at_other}

-- ---- the points without a state

empties_reach : {S : Type 0} (table : List (Option S)) (q : ℕ) (s : S) → q < length table → state_at table q ≡ None → empties (set table q (Some s)) + 1 ≡ empties table
empties_reach {S} table q s within empty =
    let was : is_empty q (state_at table q) ≡ 1 = ap (λ (o : Option S). is_empty q o) empty in omega (arith, table_sum_set is_empty 0 q q table (Some s) (omega arith) within, was)

empties_keep : {S : Type 0} (table : List (Option S)) (q : ℕ) (there s : S) → state_at table q ≡ Some there → empties (set table q (Some s)) ≡ empties table
empties_keep {S} table q there s is =
    let was : is_empty q (state_at table q) ≡ 0 = ap (λ (o : Option S). is_empty q o) is in omega (arith, table_sum_set is_empty 0 q q table (Some s) (omega arith) (state_within table q there is), was)

empties_none : (S : Type 0) (p n : ℕ) → table_sum {S = S} is_empty p (replicate n None) ≡ n
empties_none S p zero = refl
empties_none S p (suc n) = let rest = empties_none S (suc p) n in omega (arith, rest)

none_in : (S : Type 0) (points p : ℕ) (s : S) → state_at (replicate points None) p ≡ Some s → ⊥
none_in S points p s at =
    let empty : List (Option S) = replicate points None in
    let all : length empty ≡ points = length-replicate points None in
    let no : state_at empty p ≡ None = elim (cases_lt p points) [
      | inl inside ↦ get_or-replicate points p None None inside
      | inr past ↦ get_or_past empty p None (omega (arith, all))
    ] in
    absurd cc

-- ---- what is kept

-- what holds of the first state at the start goes along edges, and stays where states are joined
pub record Keeps {S : Type 0} (below : S → S → Type 0) (is_valid : S → Type 0) (is_good : ℕ → S → Type 0) (edges : ℕ → S → List (ℕ × S)) (points start : ℕ) (first : S) : Type 0 where
  pub first_good : is_good start first
  pub edge_good : (p : ℕ) (x : S) → p < points → is_good p x → All {X = ℕ × S} (λ edge. is_good edge.0 edge.1) (edges p x)
  pub join_good : (p : ℕ) (x y join : S) → is_good p x → is_good p y → IsJoin below is_valid x y join → is_good p join

-- a size to which an edge adds at most `step`, and which a join does not raise
pub record Grows {S : Type 0} (below : S → S → Type 0) (is_valid : S → Type 0) (is_good : ℕ → S → Type 0) (size : S → ℕ) (step : ℕ) (edges : ℕ → S → List (ℕ × S)) : Type 0 where
  pub adds : (p : ℕ) (x : S) → is_good p x → All {X = ℕ × S} (λ edge. size edge.1 ≤ size x + step) (edges p x)
  pub falls : (p : ℕ) (x y join : S) → is_good p x → is_good p y → IsJoin below is_valid x y join → size join ≤ size x

module _ {S : Type 0} (below : S → S → Type 0) (is_valid : S → Type 0) (is_good : ℕ → S → Type 0) (edges : ℕ → S → List (ℕ × S)) (points start : ℕ) (first : S) (keeps : Keeps below is_valid is_good edges points start first) where
  abbrev Table : List (Option S) → List (ℕ × S) → Type 0
  Table table pending = IsTable below is_valid edges points start first table pending

  set_states : (P : ℕ → S → Type 0) (table : List (Option S)) (q : ℕ) (new : S) → q < length table → P q new → ((p : ℕ) (s : S) → state_at table p ≡ Some s → P p s) → (p : ℕ) (s : S) → state_at (set table q (Some new)) p ≡ Some s → P p s
  set_states P table q new within is each = λ p s at. elim (cases_eq p q) [
    | inl same ↦ let Q : ℕ → Type 0 = λ n. P n s in subst Q (sym same) (subst (λ (x : S). P q x) (same_state (set table q (Some new)) q new s (at_same table q new within) (subst (λ (n : ℕ). state_at (set table q (Some new)) n ≡ Some s) same at)) is)
    | inr other ↦ each p s (sym (at_other table q p new other) ∙ at)
  ]

  -- it holds of each state of a table, and of each edge that is still to land
  record AllGood (table : List (Option S)) (pending : List (ℕ × S)) : Type 0 where
    length_is : length table ≡ points
    good : (p : ℕ) (s : S) → state_at table p ≡ Some s → is_good p s
    next : (e : ℕ × S) → Contains pending e → is_good e.0 e.1

  table_good : (table : List (Option S)) (pending : List (ℕ × S)) → Table table pending → AllGood table pending
  table_good table pending (at_first start_in) =
      let empty : List (Option S) = replicate points None in
      let all : length empty ≡ points = length-replicate points None in
      record {
        length_is = length-set empty start (Some first) ∙ all;
        good = set_states is_good empty start first (omega (arith, all, start_in)) keeps.first_good (λ p s at. absurd (none_in S points p s at));
        next = λ e c. absurd (contains_none e c);
      }
  table_good table some (at_visit t pending some' point state is at each) =
      let before = table_good table pending is in
      let inside : point < points = omega (arith, before.length_is, state_within table point state at) in
      let Good : ℕ × S → Type 0 = λ e. is_good e.0 e.1 in
      record {
        length_is = before.length_is;
        good = before.good;
        next = λ e c. All-contains Good (edges point state) e (keeps.edge_good point state inside (before.good point state at)) (each e c);
      }
  table_good new rest (at_landing table new' edge rest' is (reaches within vacant)) =
      let before = table_good table (edge ∷ rest) is in
      record {
        length_is = length-set table edge.0 (Some edge.1) ∙ before.length_is;
        good = set_states is_good table edge.0 edge.1 within (before.next edge (contains_head edge rest)) before.good;
        next = λ e c. before.next e (contains_tail edge e rest c);
      }
  table_good new rest (at_landing table new' edge rest' is (joins there join at least)) =
      let before = table_good table (edge ∷ rest) is in
      record {
        length_is = length-set table edge.0 (Some join) ∙ before.length_is;
        good = set_states is_good table edge.0 join (state_within table edge.0 there at) (keeps.join_good edge.0 there edge.1 join (before.good edge.0 there at) (before.next edge (contains_head edge rest)) least) before.good;
        next = λ e c. before.next e (contains_tail edge e rest c);
      }
  table_good table rest (at_skip t edge rest' is) =
      let before = table_good table (edge ∷ rest) is in
      record {
        length_is = before.length_is;
        good = before.good;
        next = λ e c. before.next e (contains_tail edge e rest c);
      }

  pub standing_good : (point : ℕ) (state : S) → IsStanding below is_valid edges points start first point state → is_good point state
  standing_good point state stands = (table_good stands.table stands.pending stands.is_table).good point state stands.there

  module _ (size : S → ℕ) (step : ℕ) (grows : Grows below is_valid is_good size step edges) where
    -- What a size can still grow to is left for the points that have no state. A state that comes to one of these has
    -- grown by one step at most.
    record AllSized (table : List (Option S)) (pending : List (ℕ × S)) : Type 0 where
      sized : (p : ℕ) (s : S) → state_at table p ≡ Some s → size s + step + step * empties table ≤ size first + step * points
      next : (e : ℕ × S) → Contains pending e → size e.1 + step * empties table ≤ size first + step * points

    table_sized : (table : List (Option S)) (pending : List (ℕ × S)) → Table table pending → AllSized table pending
    table_sized table pending (at_first start_in) =
        let empty : List (Option S) = replicate points None in
        let all : length empty ≡ points = length-replicate points None in
        let within : start < length empty = omega (arith, all, start_in) in
        let vacant : state_at empty start ≡ None = get_or-replicate points start None None start_in in
        let sum : step * (empties (set empty start (Some first)) + 1) ≡ step * points = ap (λ (n : ℕ). step * n) (empties_reach empty start first within vacant ∙ empties_none S 0 points) in
        record {
          sized = set_states (λ p s. size s + step + step * empties (set empty start (Some first)) ≤ size first + step * points) empty start first within (omega (arith, sum)) (λ p s at. absurd (none_in S points p s at));
          next = λ e c. absurd (contains_none e c);
        }
    table_sized table some (at_visit t pending some' point state is at each) =
        let before = table_sized table pending is in
        let good = (table_good table pending is).good point state at in
        let Added : ℕ × S → Type 0 = λ e. size e.1 ≤ size state + step in
        record {
          sized = before.sized;
          next = λ e c. let added : size e.1 ≤ size state + step = All-contains Added (edges point state) e (grows.adds point state good) (each e c) in omega (arith, added, before.sized point state at);
        }
    table_sized new rest (at_landing table new' edge rest' is (reaches within vacant)) =
        let before = table_sized table (edge ∷ rest) is in
        let sum : step * (empties (set table edge.0 (Some edge.1)) + 1) ≡ step * empties table = ap (λ (n : ℕ). step * n) (empties_reach table edge.0 edge.1 within vacant) in
        record {
          sized = set_states (λ p s. size s + step + step * empties (set table edge.0 (Some edge.1)) ≤ size first + step * points) table edge.0 edge.1 within (omega (arith, before.next edge (contains_head edge rest), sum)) (λ p s at. omega (arith, before.sized p s at, sum));
          next = λ e c. omega (arith, before.next e (contains_tail edge e rest c), sum);
        }
    table_sized new rest (at_landing table new' edge rest' is (joins there join at least)) =
        let before = table_sized table (edge ∷ rest) is in
        let good = table_good table (edge ∷ rest) is in
        let within = state_within table edge.0 there at in
        let sum : step * empties (set table edge.0 (Some join)) ≡ step * empties table = ap (λ (n : ℕ). step * n) (empties_keep table edge.0 there join at) in
        let less : size join ≤ size there = grows.falls edge.0 there edge.1 join (good.good edge.0 there at) (good.next edge (contains_head edge rest)) least in
        record {
          sized = set_states (λ p s. size s + step + step * empties (set table edge.0 (Some join)) ≤ size first + step * points) table edge.0 join within (omega (arith, less, before.sized edge.0 there at, sum)) (λ p s at. omega (arith, before.sized p s at, sum));
          next = λ e c. omega (arith, before.next e (contains_tail edge e rest c), sum);
        }
    table_sized table rest (at_skip t edge rest' is) =
        let before = table_sized table (edge ∷ rest) is in
        record { sized = before.sized; next = λ e c. before.next e (contains_tail edge e rest c) }

    -- each state that stands has grown by at most one step for each other point
    pub standing_size : (point : ℕ) (state : S) → IsStanding below is_valid edges points start first point state → size state + step ≤ size first + step * points
    standing_size point state stands = omega (arith, (table_sized stands.table stands.pending stands.is_table).sized point state stands.there)
