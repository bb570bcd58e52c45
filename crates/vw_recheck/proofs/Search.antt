-- A search by halves among the points of a table.
use Rattle.std.proofs.Common.{◌≡◌, ◌∙◌, ℕ, zero, suc, ◌<◌, ◌≤◌, Bool, true, false, ltb, inl, inr, cond, List, [], ◌∷◌, length, get_or, Option, Some, None, refl, sym, arith}
use Rattle.std.specs.Prelude.{◌==◌}
use Rattle.std.specs.List.{find, AllWithin}
use Rattle.std.specs.Option.{option_map}
use Rattle.std.proofs.lemmas.Bool.{ltb-true, ltb-false}
use Rattle.std.proofs.lemmas.Bool.Decides.{nat_tests}
use Rattle.std.proofs.lemmas.Option.{slice_get-get_or}
use Rattle.vw_domain.specs.declared.parts.Parts.{Parts}
use Rattle.vw_state.specs.declared.tables.PointState.{PointState}
use Rattle.vw_state.specs.Tables.{state_of}
use Rattle.vw_recheck.specs.Places.{PointsAscend}
use Rattle.vw_recheck.proofs.Order.{some_is, by_order}

-- the point of an entry, by its number
abbrev pub point_at : List PointState → ℕ → PointState → ℕ
point_at table k d = (get_or table k d).at

from_first : (from : ℕ) (table : List PointState) → PointsAscend from table → (k : ℕ) (d : PointState) → k < length table → from ≤ point_at table k d
from_first from [] rises k d less = absurd (omega (arith, less))
from_first from (p ∷ rest) rises zero d less = rises.0
from_first from (p ∷ rest) rises (suc k) d less =
    let later = from_first (suc p.at) rest rises.1 k d (omega (arith, less)) in
    omega (arith, later, rises.0)

-- the points do not descend
pub rising : (from : ℕ) (table : List PointState) → PointsAscend from table → (i j : ℕ) (d : PointState) → i ≤ j → j < length table → point_at table i d ≤ point_at table j d
rising from [] rises i j d before within = absurd (omega (arith, within))
rising from (p ∷ rest) rises zero zero d before within = omega arith
rising from (p ∷ rest) rises zero (suc j) d before within =
    let later = from_first (suc p.at) rest rises.1 j d (omega (arith, within)) in
    omega (arith, later)
rising from (p ∷ rest) rises (suc i) zero d before within = absurd (omega (arith, before))
rising from (p ∷ rest) rises (suc i) (suc j) d before within = rising (suc p.at) rest rises.1 i j d (omega (arith, before)) (omega (arith, within))

abbrev given : Option PointState → Option Parts
given found = option_map (λ (p : PointState). p.state) found

here : (p : PointState) (rest : List PointState) (k : ℕ) → p.at ≡ k → state_of (p ∷ rest) k ≡ Some p.state
here p rest k same = by (p.at == k) (grind (arith, nat_tests, same))
  where
    by : (b : Bool) → b ≡ true → given (cond b (Some p) (find (λ (q : PointState). q.at == k) rest)) ≡ Some p.state
    by true is = refl
    by false is = cc

later : (p : PointState) (rest : List PointState) (k : ℕ) → (p.at ≡ k → ⊥) → state_of (p ∷ rest) k ≡ state_of rest k
later p rest k other = by (p.at == k) refl
  where
    by : (b : Bool) → (p.at == k) ≡ b → given (cond b (Some p) (find (λ (q : PointState). q.at == k) rest)) ≡ state_of rest k
    by true is = absurd (other (grind (arith, nat_tests, is)))
    by false is = refl

module _ (k : ℕ) (d : PointState) where
  -- the entry with this number gives the point its state, where it is the point's
  pub found_at : (i : ℕ) (table : List PointState) → ((j : ℕ) → j < i → j < length table → point_at table j d < k) → i < length table → point_at table i d ≡ k → state_of table k ≡ Some (get_or table i d).state
  found_at i [] below within same = absurd (omega (arith, within))
  found_at zero (p ∷ rest) below within same = here p rest k same
  found_at (suc i) (p ∷ rest) below within same =
      let first : p.at < k = below 0 (omega arith) (omega arith) in
      later p rest k (λ e. omega (arith, e, first)) ∙ found_at i rest (λ j before inside. below (suc j) (omega (arith, before)) (omega (arith, inside))) (omega (arith, within)) same

  none_above : (from : ℕ) (table : List PointState) → PointsAscend from table → k < from → state_of table k ≡ None
  none_above from [] rises less = refl
  none_above from (p ∷ rest) rises less =
      later p rest k (λ e. omega (arith, e, less, rises.0)) ∙ none_above (suc p.at) rest rises.1 (omega (arith, less, rises.0))

  -- no entry gives it one, where the first that is not below is above
  pub none_at : (i from : ℕ) (table : List PointState) → PointsAscend from table → ((j : ℕ) → j < i → j < length table → point_at table j d < k) → (i < length table → k < point_at table i d) → state_of table k ≡ None
  none_at i from [] rises below above = refl
  none_at zero from (p ∷ rest) rises below above =
      let first : k < p.at = above (omega arith) in
      later p rest k (λ e. omega (arith, e, first)) ∙ none_above (suc p.at) rest rises.1 (omega (arith, first))
  none_at (suc i) from (p ∷ rest) rises below above =
      let first : p.at < k = below 0 (omega arith) (omega arith) in
      later p rest k (λ e. omega (arith, e, first))
      ∙ none_at i (suc p.at) rest rises.1 (λ j before inside. below (suc j) (omega (arith, before)) (omega (arith, inside))) (λ inside. above (omega (arith, inside)))

-- where the points below k end
module _ (k : ℕ) (i : ℕ) (d : PointState) (table : List PointState) (rises : PointsAscend 0 table) (below : AllWithin (λ p. ltb p.at k ≡ true) table 0 i) (above : AllWithin (λ p. ltb p.at k ≡ false) table i (length table)) where
  less : (j : ℕ) → j < i → j < length table → point_at table j d < k
  less j before inside = ltb-true (point_at table j d) k (below j d (omega arith) before)

  pub found_there : i < length table → point_at table i d ≡ k → state_of table k ≡ Some (get_or table i d).state
  found_there within same = found_at k d i table less within same

  pub none_there : (i < length table → point_at table i d ≡ k → ⊥) → state_of table k ≡ None
  none_there other = none_at k d i 0 table rises less first_above
    where
      first_above : i < length table → k < point_at table i d
      first_above within =
          let least = ltb-false (point_at table i d) k (above i d (omega arith) within) in
          elim (by_order k (point_at table i d)) [
            | inl before ↦ before
            | inr (inl same) ↦ absurd (other within (sym same))
            | inr (inr after) ↦ absurd (omega (arith, least, after))
          ]

pub none_past : (k i : ℕ) (table : List PointState) → PointsAscend 0 table → AllWithin (λ p. ltb p.at k ≡ true) table 0 i → AllWithin (λ p. ltb p.at k ≡ false) table i (length table) → length table ≤ i → state_of table k ≡ None
none_past k i [] rises below above past = refl
none_past k i (p ∷ rest) rises below above past = none_there k i p (p ∷ rest) rises below above (λ within same. omega (arith, within, past))

-- what is read does not depend on what is read of a shorter list
pub same_read : (table : List PointState) (i : ℕ) (d e : PointState) → i < length table → get_or table i d ≡ get_or table i e
same_read table i d e within = some_is (sym (slice_get-get_or table i d within) ∙ slice_get-get_or table i e within)
