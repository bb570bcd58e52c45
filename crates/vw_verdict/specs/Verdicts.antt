-- Verdicts on a module.
use Rattle.std.specs.Prelude.{◌≡◌, ℕ, ◌<◌, Option, Some, None}
use Rattle.vw_layout.specs.declared.functions.Function.{Function}
use Rattle.vw_layout.specs.declared.layout.Module.{Module}
use Rattle.vw_state.specs.declared.tables.Place.{Place}
use Rattle.vw_state.specs.declared.tables.Tables.{Tables}
use Rattle.vw_state.specs.declared.tables.Verdict.{Verdict}
use Rattle.vw_state.specs.declared.tables.Verdict.TheVariants.{Safe, Unsafe}
use Rattle.vw_state.specs.Context.{context_of}
use Rattle.vw_checks.specs.Modules.{IsNumbered, AreSafe, AreLeast, EachHasSafeTable}
use Rattle.vw_verdict.specs.Places.{IsPlaceIn}

-- The place of a module: that of the first function, by address, that has one.
pub record IsPlaceOf (m : Module) (place : Place) : Type 0 where
  pub number : ℕ
  pub function : Function
  pub is : IsNumbered m number function
  pub entry : place.entry ≡ function.entry
  pub fails : IsPlaceIn (context_of m function) place.at place.check
  pub before : (other : ℕ) (g : Function) → other < number → IsNumbered m other g → (at check : ℕ) → IsPlaceIn (context_of m g) at check → ⊥

-- The verdict on a module: safe, with the least tables, exactly where every declared function has a safe table;
-- else unsafe, with the module's place.
abbrev pub IsVerdict : Module → Verdict → Type 0
IsVerdict m (Safe tables) = EachHasSafeTable m × AreLeast m tables × AreSafe m tables
IsVerdict m (Unsafe place) = (EachHasSafeTable m → ⊥) × IsPlaceOf m place

-- the same without the tables
abbrev pub IsJudgement : Module → Option Place → Type 0
IsJudgement m None = (tables : Tables) × IsVerdict m (Safe tables)
IsJudgement m (Some place) = IsVerdict m (Unsafe place)
