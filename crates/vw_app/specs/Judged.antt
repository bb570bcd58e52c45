-- The verdict on a module as an answer: a status and a text.
use Rattle.std.specs.Prelude.{ℕ, List}
use Rattle.vw_layout.specs.declared.layout.Module.{Module}
use Rattle.vw_state.specs.declared.tables.Place.{Place}
use Rattle.vw_checks.specs.Modules.{EachHasSafeTable}
use Rattle.vw_verdict.specs.Verdicts.{IsPlaceOf}
use Rattle.vw_app.specs.Lines.{unsafe_line}

-- The status and the text of the verdict on a module: 0, with a text of a safe module, exactly where every declared function
-- has a safe table, and 1 with the module's place exactly where some function has none.
pub data Judged (m : Module) (IsSafeText : List ℕ → Type 0) : ℕ → List ℕ → Type 0 where
  safe : (text : List ℕ) → EachHasSafeTable m → IsSafeText text → Judged m IsSafeText 0 text
  unsafe : (place : Place) (fails : IsPlaceOf m place) → (EachHasSafeTable m → ⊥) → Judged m IsSafeText 1 (unsafe_line fails.function.name place.at place.check)
