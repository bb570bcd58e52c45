-- A table of states by place: what it reads, and what it is when a state is written.
use Rattle.std.proofs.Common.{◌≡◌, ◌≢◌, ℕ, zero, suc, ◌+◌, ◌^◌, ◌<◌, ◌≤◌, ◌==◌, Bool, true, false, cond, List, [], ◌∷◌, ◌++◌, length, get_or, set, replicate, Option, Some, None, refl, sym, ap, subst, ◌∙◌, arith, inl, inr}
use Rattle.std.proofs.lemmas.Bool.{cases_eq}
use Rattle.std.proofs.lemmas.Bool.Decides.{nat_tests}
use Rattle.std.proofs.lemmas.List.{same_lists, length-map, get_or-map, get_or_default, get_or-set_same, get_or-set_other, get_or_past, length-set, length_push, get_or_append_left, get_or_push, get_or-replicate, length-replicate}
use Rattle.std.proofs.lemmas.List.Elements.{All-replicate, All-set, All-weaker}
use Rattle.vw_solver.specs.Solution.{state_at}
use Rattle.vw_solver.specs.search.Places.{state_in, states_by, placed_count, ArePlaces}

pub length-states_by : {S : Type 0} (places : List ℕ) (states : List (Option S)) → length (states_by places states) ≡ length places
length-states_by {S} places states = length-map places (state_in states)

-- the state of a point is that at its place
pub state_by : {S : Type 0} (places : List ℕ) (states : List (Option S)) (p place : ℕ) → p < length places → get_or places p 0 ≡ place → state_at (states_by places states) p ≡ state_in states place
state_by {S} places states p place inside is = get_or-map (state_in states) places p 0 None inside ∙ ap (state_in states) is

pub past_by : {S : Type 0} (places : List ℕ) (states : List (Option S)) (p : ℕ) → length places ≤ p → state_at (states_by places states) p ≡ None
past_by {S} places states p past = get_or_past (states_by places states) p None (omega (arith, length-states_by places states))

abbrev zeros : ℕ → List ℕ
zeros points = replicate points 0

pub none_first : {S : Type 0} (points : ℕ) → states_by {S = S} (zeros points) (None ∷ []) ≡ replicate points None
none_first {S} zero = refl
none_first {S} (suc n) = ap (λ (t : List (Option S)). None ∷ t) (none_first {S = S} n)

pub first_places : {S : Type 0} (points : ℕ) → points < 2 ^ 32 → ArePlaces {S = S} (zeros points) (None ∷ [])
first_places {S} points short = record {
  few = omega arith;
  short = let count : length (zeros points) ≡ points = length-replicate points 0 in omega (arith, short, count);
  some = omega arith;
  none = refl;
  inside = All-replicate (λ place. place < 1) points 0 (omega arith);
  apart = λ j k place in_j in_k is_j is_k.
      let count : length (zeros points) ≡ points = length-replicate points 0 in
      inr (sym is_j ∙ get_or-replicate points j 0 0 (omega (arith, count, in_j)));
}

-- one more point has a place of its own
placed_more : (places : List ℕ) (p n : ℕ) → p < length places → get_or places p 0 ≡ 0 → 0 < n → placed_count (set places p n) ≡ placed_count places + 1
placed_more [] p n inside is some = absurd (omega arith)
placed_more (x ∷ xs) zero n inside is some =
    let before : (x == 0) ≡ true = grind (arith, nat_tests, is) in
    let now : (n == 0) ≡ false = grind (arith, nat_tests, some) in
    rw (before, now) (omega arith)
placed_more (x ∷ xs) (suc p) n inside is some = omega (arith, placed_more xs p n (omega arith) is some)

one_most : (empty : Bool) → cond empty 0 1 ≤ 1
one_most true = omega arith
one_most false = omega arith

placed_most : (places : List ℕ) → placed_count places ≤ length places
placed_most [] = omega arith
placed_most (x ∷ xs) = omega (arith, one_most (x == 0), placed_most xs)

pub placed_below : (places : List ℕ) (p : ℕ) → p < length places → get_or places p 0 ≡ 0 → placed_count places + 1 ≤ length places
placed_below places p inside is =
    omega (arith, placed_most (set places p 1), placed_more places p 1 inside is (omega arith), length-set places p 1)

-- lists with the same state at each point
same_tables : {S : Type 0} (xs ys : List (Option S)) → length xs ≡ length ys → ((k : ℕ) → k < length xs → state_at xs k ≡ state_at ys k) → xs ≡ ys
same_tables xs ys size each =
    same_lists xs ys size (λ k d inside. get_or_default xs k d None inside ∙ each k inside ∙ get_or_default ys k None d (omega (arith, size, inside)))

-- a state written at a point's place
module _ {S : Type 0} (places : List ℕ) (states : List (Option S)) (p place : ℕ) (o : Option S) (are : ArePlaces places states) (within : p < length places) (is : get_or places p 0 ≡ place) (empty : place ≡ 0 → o ≡ None) where
  place_in : place < length states
  place_in = subst (λ (n : ℕ). n < length states) is (are.inside p 0 within)

  written_at : (k : ℕ) → k < length places → state_at (states_by places (set states place o)) k ≡ state_at (set (states_by places states) p o) k
  written_at k inside =
      let table = states_by places states in
      let size : length table ≡ length places = length-states_by places states in
      elim (cases_eq k p) [
        | inl same ↦
            let at : get_or places k 0 ≡ place = ap (λ (n : ℕ). get_or places n 0) same ∙ is in
            let left = state_by places (set states place o) k place inside at ∙ get_or-set_same states place o None place_in in
            let right : state_at (set table p o) k ≡ o = ap (λ (n : ℕ). state_at (set table p o) n) same ∙ get_or-set_same table p o None (omega (arith, size, within)) in
            left ∙ sym right
        | inr other ↦
            let q = get_or places k 0 in
            let right : state_at (set table p o) k ≡ state_in states q = get_or-set_other table p k o None other ∙ state_by places states k q inside refl in
            elim (cases_eq q place) [
              | inl meets ↦ elim (are.apart k p place inside within meets is) [
                | inl same ↦ absurd (other same)
                | inr zero_place ↦
                    let left = state_by places (set states place o) k place inside meets ∙ get_or-set_same states place o None place_in ∙ empty zero_place in
                    let none : state_in states q ≡ None = ap (state_in states) (meets ∙ zero_place) ∙ are.none in
                    left ∙ sym none ∙ sym right
              ]
              | inr apart ↦ state_by places (set states place o) k q inside refl ∙ get_or-set_other states place q o None apart ∙ sym right
            ]
      ]

  pub written : states_by places (set states place o) ≡ set (states_by places states) p o
  written =
      let size : length (states_by places states) ≡ length places = length-states_by places states in
      let now : length (states_by places (set states place o)) ≡ length places = length-states_by places (set states place o) in
      let long : length (set (states_by places states) p o) ≡ length (states_by places states) = length-set (states_by places states) p o in
      same_tables (states_by places (set states place o)) (set (states_by places states) p o) (omega (arith, size, now, long)) (λ k inside. written_at k (omega (arith, now, inside)))

  pub written_places : ArePlaces places (set states place o)
  written_places =
      let size : length (set states place o) ≡ length states = length-set states place o in
      record {
        few = omega (arith, size, are.few);
        short = are.short;
        some = omega (arith, size, are.some);
        none = elim (cases_eq 0 place) [
          | inl same ↦ ap (λ (n : ℕ). get_or (set states place o) n None) same ∙ get_or-set_same states place o None place_in ∙ empty (sym same)
          | inr other ↦ get_or-set_other states place 0 o None other ∙ are.none
        ];
        inside = λ k d inside. omega (arith, size, are.inside k d inside);
        apart = are.apart;
      }

-- a state put at the end, for a point that had none
module _ {S : Type 0} (places : List ℕ) (states : List (Option S)) (p : ℕ) (s : S) (are : ArePlaces places states) (within : p < length places) (new : get_or places p 0 ≡ 0) where
  abbrev longer : List (Option S)
  longer = states ++ Some s ∷ []

  abbrev placed : List ℕ
  placed = set places p (length states)

  count : length placed ≡ length places
  count = length-set places p (length states)

  at_end : get_or placed p 0 ≡ length states
  at_end = get_or-set_same places p (length states) 0 within

  elsewhere : (k : ℕ) → k ≢ p → get_or placed k 0 ≡ get_or places k 0
  elsewhere k other = get_or-set_other places p k (length states) 0 other

  pushed_at : (k : ℕ) → k < length places → state_at (states_by placed longer) k ≡ state_at (set (states_by places states) p (Some s)) k
  pushed_at k inside =
      let table = states_by places states in
      let size : length table ≡ length places = length-states_by places states in
      let within_k : k < length placed = omega (arith, count, inside) in
      elim (cases_eq k p) [
        | inl same ↦
            let at : get_or placed k 0 ≡ length states = ap (λ (n : ℕ). get_or placed n 0) same ∙ at_end in
            let left = state_by placed longer k (length states) within_k at ∙ get_or_push states (Some s) None (length states) refl in
            let right : state_at (set table p (Some s)) k ≡ Some s = ap (λ (n : ℕ). state_at (set table p (Some s)) n) same ∙ get_or-set_same table p (Some s) None (omega (arith, size, within)) in
            left ∙ sym right
        | inr other ↦
            let q = get_or places k 0 in
            let right : state_at (set table p (Some s)) k ≡ state_in states q = get_or-set_other table p k (Some s) None other ∙ state_by places states k q inside refl in
            state_by placed longer k q within_k (elsewhere k other) ∙ get_or_append_left states (Some s ∷ []) None q (are.inside k 0 inside) ∙ sym right
      ]

  pub pushed : states_by placed longer ≡ set (states_by places states) p (Some s)
  pushed =
      let size : length (states_by places states) ≡ length places = length-states_by places states in
      let now : length (states_by placed longer) ≡ length placed = length-states_by placed longer in
      let long : length (set (states_by places states) p (Some s)) ≡ length (states_by places states) = length-set (states_by places states) p (Some s) in
      same_tables (states_by placed longer) (set (states_by places states) p (Some s)) (omega (arith, size, now, long, count)) (λ k inside. pushed_at k (omega (arith, now, count, inside)))

  pub pushed_places : ArePlaces placed longer
  pushed_places =
      let size : length longer ≡ length states + 1 = length_push states (Some s) in
      let past : (k : ℕ) → k ≢ p → k < length placed → get_or placed k 0 ≡ length states → ⊥ = λ k other inside at.
      let low : get_or places k 0 < length states = are.inside k 0 (omega (arith, count, inside)) in
      let same : get_or places k 0 ≡ length states = sym (elsewhere k other) ∙ at in
      omega (arith, low, same) in
      record {
        few = omega (arith, size, are.few, placed_more places p (length states) within new are.some);
        short = omega (arith, count, are.short);
        some = omega (arith, size);
        none = get_or_append_left states (Some s ∷ []) None 0 are.some ∙ are.none;
        inside = All-set (λ place. place < length longer) places p (length states) (omega (arith, size)) (All-weaker (λ place. place < length states) (λ place. place < length longer) (λ place low. omega (arith, size, low)) places are.inside);
        apart = λ j k place in_j in_k is_j is_k. elim (cases_eq j p) [
          | inl same_j ↦ elim (cases_eq k p) [
            | inl same_k ↦ inl (same_j ∙ sym same_k)
            | inr other_k ↦
                let at : get_or placed j 0 ≡ length states = ap (λ (n : ℕ). get_or placed n 0) same_j ∙ at_end in
                absurd (past k other_k in_k (is_k ∙ sym is_j ∙ at))
          ]
          | inr other_j ↦ elim (cases_eq k p) [
            | inl same_k ↦
                let at : get_or placed k 0 ≡ length states = ap (λ (n : ℕ). get_or placed n 0) same_k ∙ at_end in
                absurd (past j other_j in_j (is_j ∙ sym is_k ∙ at))
            | inr other_k ↦ are.apart j k place (omega (arith, count, in_j)) (omega (arith, count, in_k)) (sym (elsewhere j other_j) ∙ is_j) (sym (elsewhere k other_k) ∙ is_k)
          ]
        ];
      }
