-- A module has one place at most.
use Rattle.std.proofs.Common.{◌≡◌, ℕ, ◌≤◌, ◌<◌, Bool, true, false, List, Some, refl, sym, ◌∙◌, ap, subst, arith}
use Rattle.std.specs.Prelude.{nat_lt}
use Rattle.std.specs.List.{slice_get}
use Rattle.std.proofs.lemmas.Bool.Decides.{nat_tests}
use Rattle.vw_layout.specs.declared.functions.Function.{Function}
use Rattle.vw_layout.specs.declared.layout.Module.{Module}
use Rattle.vw_domain.specs.declared.parts.Parts.{Parts}
use Rattle.vw_state.specs.declared.tables.PointState.{PointState}
use Rattle.vw_state.specs.declared.tables.Place.{Place}
use Rattle.vw_state.specs.Checks.{FailsGraph, lacks_code, leaves, StopsAt}
use Rattle.vw_state.specs.Context.{Context, context_of}
use Rattle.vw_state.specs.Tables.{state_of}
use Rattle.vw_checks.specs.Checks.{Fails}
use Rattle.vw_verdict.specs.Places.{FailsFirst, IsPlaceIn, stops, fails}
use Rattle.vw_verdict.specs.Verdicts.{IsPlaceOf}
use Rattle.vw_state.specs.Rounds.{IsLeast}
use Rattle.vw_app.proofs.Least.{OneLeastIn, least_stops, least_stable}

some_is : {A : Type 0} {x y : A} → Some x ≡ Some y → x ≡ y
some_is e = cc

both_ways : {a b : ℕ} → a ≤ b → b ≤ a → a ≡ b
both_ways {a} {b} one two = omega (arith, one, two)

-- a table gives a point one state
same_state : (table : List PointState) (at other : ℕ) (state known : Parts) → state_of table at ≡ Some state → at ≡ other → state_of table other ≡ Some known → known ≡ state
same_state table at other state known there same also = some_is (sym also ∙ (ap (λ (a : ℕ). state_of table a) (sym same) ∙ there))

same_check : {f : Context} {at one two : ℕ} {state : Parts} → FailsGraph f at state one → FailsGraph f at state two → one ≡ two
same_check (lacks_code lacks) (lacks_code also) = refl
same_check (lacks_code lacks) (leaves some out) = absurd (some lacks)
same_check (leaves some out) (lacks_code lacks) = absurd (some lacks)
same_check (leaves some out) (leaves also out') = refl

module _ {f : Context} {table : List PointState} where
  stop_same : {at check at' check' : ℕ} → StopsAt f table at check → StopsAt f table at' check' → (at ≡ at') × (check ≡ check')
  stop_same {at} {check} {at'} {check'} first second =
      let same : at ≡ at' = both_ways (first.lowest at' second.state second.there check' second.fails) (second.lowest at first.state first.there check first.fails) in
      let state : second.state ≡ first.state = same_state table at at' first.state second.state first.there same second.there in
      let here : FailsGraph f at second.state check' = subst (λ (a : ℕ). FailsGraph f a second.state check') (sym same) second.fails in
      (same, same_check first.fails (subst (λ (s : Parts). FailsGraph f at s check') state here))

  first_same : {at check at' check' : ℕ} → FailsFirst f table at check → FailsFirst f table at' check' → (at ≡ at') × (check ≡ check')
  first_same {at} {check} {at'} {check'} first second =
      let same : at ≡ at' = both_ways (first.lowest at' second.state second.there check' second.fails.0) (second.lowest at first.state first.there check first.fails.0) in
      let state : second.state ≡ first.state = same_state table at at' first.state second.state first.there same second.there in
      let here : Fails f at second.state check' = subst (λ (a : ℕ). Fails f a second.state check') (sym same) second.fails.0 in
      let also : Fails f at' first.state check = subst (λ (a : ℕ). Fails f a first.state check) same first.fails.0 in (
        same,
        both_ways
            (first.fails.1 check' (subst (λ (s : Parts). Fails f at s check') state here))
            (second.fails.1 check (subst (λ (s : Parts). Fails f at' s check) (sym state) also)),
      )

-- where a function has one least table, it has one place
module _ {f : Context} (one_least : (table other : List PointState) → IsLeast f table → IsLeast f other → table ≡ other) where
  place_once : {at check at' check' : ℕ} → IsPlaceIn f at check → IsPlaceIn f at' check' → (at ≡ at') × (check ≡ check')
  place_once {at} {check} {at'} {check'} (stops number pairs table round stop) (stops number' pairs' table' round' stop') =
      let same = one_least table' table (least_stops round' stop') (least_stops round stop) in
      stop_same stop (subst (λ (t : List PointState). StopsAt f t at' check') same stop')
  place_once {at} {check} {at'} {check'} (stops number pairs table round stop) (fails number' pairs' table' round' stable first) =
      let same = one_least table table' (least_stops round stop) (least_stable round' stable) in
      let here = subst (λ (t : List PointState). StopsAt f t at check) same stop in
      absurd (stable.passes at here.state here.there check here.fails)
  place_once {at} {check} {at'} {check'} (fails number pairs table round stable first) (stops number' pairs' table' round' stop') =
      let same = one_least table' table (least_stops round' stop') (least_stable round stable) in
      let here = subst (λ (t : List PointState). StopsAt f t at' check') same stop' in
      absurd (stable.passes at' here.state here.there check' here.fails)
  place_once {at} {check} {at'} {check'} (fails number pairs table round stable first) (fails number' pairs' table' round' stable' first') =
      let same = one_least table' table (least_stable round' stable') (least_stable round stable) in
      first_same first (subst (λ (t : List PointState). FailsFirst f t at' check') same first')

by_order : (a b : ℕ) → (a < b → ⊥) → (b < a → ⊥) → a ≡ b
by_order a b not_less not_greater = equal (nat_lt a b) refl (nat_lt b a) refl
  where
    equal : (less : Bool) → nat_lt a b ≡ less → (greater : Bool) → nat_lt b a ≡ greater → a ≡ b
    equal true is greater also = absurd (not_less (grind (arith, nat_tests, is)))
    equal false is true also = absurd (not_greater (grind (arith, nat_tests, also)))
    equal false is false also = grind (arith, nat_tests, is, also)

module _ {m : Module} (one_least : OneLeastIn m) where
  -- two places of a module agree
  pub one_place : {place other : Place} (one : IsPlaceOf m place) (two : IsPlaceOf m other) → (one.function ≡ two.function) × (place.at ≡ other.at) × (place.check ≡ other.check)
  one_place {place} {other} one two =
      let number : one.number ≡ two.number = by_order one.number two.number
      (λ less. two.before one.number one.function less one.is place.at place.check one.fails)
      (λ less. one.before two.number two.function less two.is other.at other.check two.fails) in
      let same : one.function ≡ two.function = some_is (sym one.is ∙ (ap (λ (k : ℕ). slice_get m.functions k) number ∙ two.is)) in
      let once = place_once (one_least one.number one.function one.is) one.fails (subst (λ (g : Function). IsPlaceIn (context_of m g) other.at other.check) (sym same) two.fails) in
      (same, once.0, once.1)
