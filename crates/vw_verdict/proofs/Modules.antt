-- The verdict function by function.
use Rattle.std.proofs.Common.{◌≡◌, ◌⊎◌, inl, inr, ℕ, ◌+◌, ◌≤◌, ◌<◌, Bool, true, false, List, [], ◌∷◌, ◌++◌, length, take, get_or, Some, refl, sym, ◌∙◌, ap, subst, arith}
use Rattle.std.specs.Prelude.{nat_lt}
use Rattle.std.specs.List.{slice_get}
use Rattle.std.proofs.lemmas.Bool.Decides.{nat_tests}
use Rattle.std.proofs.lemmas.List.{take_more, take_all}
use Rattle.std.proofs.lemmas.Option.{slice_get_within, slice_get-get_or, get_or_from_slice_get}
use Rattle.vw_layout.specs.declared.functions.Function.{Function}
use Rattle.vw_layout.specs.declared.layout.Module.{Module}
use Rattle.vw_state.specs.Context.{Context, context_of}
use Rattle.vw_state.specs.Rounds.{IsLeast}
use Rattle.vw_state.specs.declared.tables.FunctionTable.{FunctionTable}
use Rattle.vw_state.specs.declared.tables.PointState.{PointState}
use Rattle.vw_state.specs.declared.tables.Place.{Place}
use Rattle.vw_state.specs.declared.tables.Verdict.TheVariants as verdict
use Rattle.vw_verdict.specs.declared.function.Finding.TheVariants as finding
use Rattle.vw_checks.specs.Safe.{IsSafeTable, HasSafeTable}
use Rattle.vw_checks.specs.Modules.{IsNumbered, TablesOf}
use Rattle.vw_verdict.specs.Places.{IsPlaceIn}
use Rattle.vw_verdict.specs.Verdicts.{IsVerdict}
use Rattle.vw_verdict.specs.search.Findings.{Found, Keeps, AreKept}
use Rattle.vw_verdict.proofs.NoPlace.{RoundsPass, StopsAreChecks, no_place}

tables_more : (Holds : Context → List PointState → Type 0) (m : Module) (functions : List Function) (tables : List FunctionTable) (f : Function) (t : FunctionTable)
    → TablesOf Holds m functions tables → t.entry ≡ f.entry → Holds (context_of m f) t.states → TablesOf Holds m (functions ++ f ∷ []) (tables ++ t ∷ [])
tables_more Holds m [] [] f t so entry holds = (entry, holds, tt)
tables_more Holds m [] (u ∷ tables) f t so entry holds = absurd so
tables_more Holds m (g ∷ functions) [] f t so entry holds = absurd so
tables_more Holds m (g ∷ functions) (u ∷ tables) f t so entry holds = (so.0, so.1, tables_more Holds m functions tables f t so.2 entry holds)

-- what is known once the functions below a number are found safe
pub record Passed (m : Module) (n : ℕ) (tables : List FunctionTable) : Type 0 where
  pub least : TablesOf IsLeast m (take n m.functions) tables
  pub safe : TablesOf IsSafeTable m (take n m.functions) tables
  pub each : (other : ℕ) (g : Function) → other < n → IsNumbered m other g → HasSafeTable (context_of m g)

pub begins : (m : Module) → Passed m 0 []
begins m = record { least = tt; safe = tt; each = λ other g less. absurd (omega (arith, less)) }

some_is : {A : Type 0} {x y : A} → Some x ≡ Some y → x ≡ y
some_is e = cc

below_or_at : (k n : ℕ) → k < n + 1 → (k ≡ n) ⊎ (k < n)
below_or_at k n less = decide (nat_lt k n) refl
  where
    decide : (is : Bool) → nat_lt k n ≡ is → (k ≡ n) ⊎ (k < n)
    decide true is = inr (grind (arith, nat_tests, is))
    decide false is = inl (grind (arith, nat_tests, is, less))

module _ (m : Module) (n : ℕ) (f : Function) (tables : List FunctionTable) (is : IsNumbered m n f) (passed : Passed m n tables) where
  one_more : take (n + 1) m.functions ≡ take n m.functions ++ f ∷ []
  one_more =
      let inside = slice_get_within m.functions n f is in
      take_more m.functions n f inside ∙ ap (λ (g : Function). take n m.functions ++ g ∷ []) (get_or_from_slice_get m.functions n f f is)

  each_more : HasSafeTable (context_of m f) → (other : ℕ) (g : Function) → other < n + 1 → IsNumbered m other g → HasSafeTable (context_of m g)
  each_more here other g less is_g =
      elim (below_or_at other n less) [
        | inl same ↦
            let one : f ≡ g = some_is (sym is ∙ (ap (λ (k : ℕ). slice_get m.functions k) (sym same) ∙ is_g)) in
            subst (λ (h : Function). HasSafeTable (context_of m h)) one here
        | inr before ↦ passed.each other g before is_g
      ]

  pub passed_more : (t : FunctionTable) → Found (context_of m f) (finding.Safe t) → Passed m (n + 1) (tables ++ t ∷ [])
  passed_more t found = record {
    least = subst (λ (fs : List Function). TablesOf IsLeast m fs (tables ++ t ∷ [])) (sym one_more) (tables_more IsLeast m (take n m.functions) tables f t passed.least found.0 found.1);
    safe = subst (λ (fs : List Function). TablesOf IsSafeTable m fs (tables ++ t ∷ [])) (sym one_more) (tables_more IsSafeTable m (take n m.functions) tables f t passed.safe found.0 found.2);
    each = each_more (record { table = t.states; is_safe = found.2 });
  }

  pub judged_unsafe : ((number : ℕ) (g : Function) → IsNumbered m number g → RoundsPass (context_of m g)) → StopsAreChecks → (place : Place) → Found (context_of m f) (finding.Unsafe place) → IsVerdict m (verdict.Unsafe place)
  judged_unsafe law among place found = (
    λ each. fails_here (each n f is),
    record {
      number = n;
      function = f;
      is = is;
      entry = found.0;
      fails = found.1;
      before = λ other g less is_g at check. safe_before (law other g is_g) (passed.each other g less is_g) at check;
    },
  )
    where
      safe_before : {g : Context} → RoundsPass g → HasSafeTable g → (at check : ℕ) → IsPlaceIn g at check → ⊥
      safe_before {g} law has at check = no_place g law among has at check

      fails_here : HasSafeTable (context_of m f) → ⊥
      fails_here has = no_place (context_of m f) (law n f is) among has place.at place.check found.1

pub judged_safe : (m : Module) (n : ℕ) (tables : List FunctionTable) → length m.functions ≤ n → Passed m n tables → IsVerdict m (verdict.Safe (record { functions = tables }))
judged_safe m n tables end passed = (
  λ number f is. passed.each number f (omega (arith, end, slice_get_within m.functions number f is)) is,
  subst (λ (fs : List Function). TablesOf IsLeast m fs tables) (take_all n m.functions end) passed.least,
  subst (λ (fs : List Function). TablesOf IsSafeTable m fs tables) (take_all n m.functions end) passed.safe,
)

-- the function with a number, of a list
pub numbered_at : (functions : List Function) (n : ℕ) → n < length functions → (f : Function) × (slice_get functions n ≡ Some f)
numbered_at functions n inside = (get_or functions n blank, slice_get-get_or functions n blank inside)
  where
    blank : Function
    blank = record { entry = 0; size = 0; name = [] }

-- what was kept of all tables, and of one more
pub kept_more : (keeps : Bool) (kept all new : List FunctionTable) (t : FunctionTable) → AreKept keeps kept all → Keeps keeps kept t new → AreKept keeps new (all ++ t ∷ [])
kept_more true kept all new t are keeps = keeps ∙ ap (λ (ts : List FunctionTable). ts ++ t ∷ []) are
kept_more false kept all new t are keeps = tt

pub none_kept : (keeps : Bool) → AreKept keeps [] []
none_kept true = refl
none_kept false = tt
