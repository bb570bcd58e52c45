-- What is found of a function, as the program names it.
use Rattle.std.specs.Prelude.{◌≡◌, ℕ, Bool, true, false, List, [], ◌∷◌, ◌++◌, Option, Some, None}
use Rattle.vw_layout.specs.declared.layout.Module.{Module}
use Rattle.vw_state.specs.declared.tables.FunctionTable.{FunctionTable}
use Rattle.vw_state.specs.declared.tables.PointState.{PointState}
use Rattle.vw_state.specs.Context.{Context}
use Rattle.vw_state.specs.Rounds.{IsRound, IsStable, IsLeast}
use Rattle.vw_checks.specs.Safe.{NoneFails, IsSafeTable}
use Rattle.vw_verdict.specs.declared.function.Finding.{Finding}
use Rattle.vw_verdict.specs.declared.function.Finding.TheVariants.{Safe, Unsafe}
use Rattle.vw_state.specs.declared.tables.Tables.{Tables}
use Rattle.vw_state.specs.declared.tables.Verdict.{Verdict}
use Rattle.vw_state.specs.declared.tables.Verdict.TheVariants as verdict
use Rattle.vw_verdict.specs.Places.{IsPlaceIn, FailsFirst}
use Rattle.vw_verdict.specs.Verdicts.{IsVerdict}

-- the rounds over a function are stable, with this table
pub record EndsStable (f : Context) (table : FunctionTable) : Type 0 where
  pub entry : table.entry ≡ f.entry
  pub number : ℕ
  pub pairs : List (ℕ × ℕ)
  pub round : IsRound f number pairs table.states
  pub stable : IsStable f pairs table.states

-- what is found of a function of a module
abbrev pub Found : Context → Finding → Type 0
Found f (Safe table) = (table.entry ≡ f.entry) × IsLeast f table.states × IsSafeTable f table.states
Found f (Unsafe place) = (place.entry ≡ f.entry) × IsPlaceIn f place.at place.check

-- the first failing point of a table with its check; None: there is none
abbrev pub FirstFailing : Context → List PointState → Option (ℕ × ℕ) → Type 0
FirstFailing f table None = NoneFails f table
FirstFailing f table (Some (at, check)) = FailsFirst f table at check

-- a table is appended where tables are to be kept
abbrev pub Keeps : Bool → List FunctionTable → FunctionTable → List FunctionTable → Type 0
Keeps true old table new = new ≡ old ++ table ∷ []
Keeps false old table new = new ≡ old

-- the tables that were kept of all
abbrev pub AreKept : Bool → List FunctionTable → List FunctionTable → Type 0
AreKept true kept all = kept ≡ all
AreKept false kept all = Unit {0}

-- the verdict, whose tables were kept or not
abbrev pub IsJudged : Bool → Module → Verdict → Type 0
IsJudged keeps m (verdict.Safe kept) = (tables : Tables) × AreKept keeps kept.functions tables.functions × IsVerdict m (verdict.Safe tables)
IsJudged keeps m (verdict.Unsafe place) = IsVerdict m (verdict.Unsafe place)
