-- From the verdict of the analysis to what the program answers.
use Rattle.std.proofs.Common.{◌≡◌, ℕ, List, length, sym, ◌∙◌, ap, subst}
use Rattle.vw_rows.specs.Numbers.{IsBytes}
use Rattle.vw_layout.specs.declared.functions.Function.{Function}
use Rattle.vw_layout.specs.declared.layout.Module.{Module}
use Rattle.vw_layout.specs.Layout.{IsModule, IsWhole}
use Rattle.vw_state.specs.declared.tables.Place.{Place}
use Rattle.vw_state.specs.declared.tables.Tables.{Tables}
use Rattle.vw_state.specs.declared.tables.Verdict.TheVariants as verdict
use Rattle.vw_checks.specs.Modules.{AreSafe, AreLeast}
use Rattle.vw_machine.specs.Module.{declared_module, module_of}
use Rattle.vw_sandbox.specs.MapOf.{map_of}
use Rattle.vw_sandbox.specs.Maps.{IsSandboxedBy}
use Rattle.vw_sandbox.specs.Sandboxed.{IsSandboxedFile}
use Rattle.vw_verdict.specs.Verdicts.{IsVerdict, IsPlaceOf}
use Rattle.vw_report.specs.ReportText.{IsTextOf}
use Rattle.vw_app.specs.Answer.{IsLeastReport, IsSafeLine, Judged, safe, unsafe}
use Rattle.vw_app.specs.Lines.{safe_line, unsafe_line}
use Rattle.vw_app.proofs.Least.{declared_is}

-- safe tables of a module make it sandboxed
abbrev pub SandboxLaw : Type 0
SandboxLaw = (file : List ℕ) (tables : Tables) → IsModule file → IsBytes file → AreSafe (declared_module file) tables → IsSandboxedBy (module_of file) (map_of (declared_module file) tables)

pub safe_judged : (m : Module) (tables : Tables) (lent : List Function) (text : List ℕ) → IsVerdict m (verdict.Safe tables) → lent ≡ m.functions → text ≡ safe_line (length lent) → Judged m (IsSafeLine m) 0 text
safe_judged m tables lent text judged same made = safe text judged.0 (made ∙ ap (λ (fs : List Function). safe_line (length fs)) same)

pub safe_reported : (m : Module) (tables : Tables) (text : List ℕ) → IsVerdict m (verdict.Safe tables) → IsTextOf tables text → Judged m (IsLeastReport m) 0 text
safe_reported m tables text judged printed = safe text judged.0 (record { tables = tables; least = judged.1; printed = printed })

pub unsafe_judged : (m : Module) (IsSafeText : List ℕ → Type 0) (place : Place) (text : List ℕ) → IsVerdict m (verdict.Unsafe place) → ((fails : IsPlaceOf m place) → text ≡ unsafe_line fails.function.name place.at place.check) → Judged m IsSafeText 1 text
unsafe_judged m IsSafeText place text judged made = subst (λ (t : List ℕ). Judged m IsSafeText 1 t) (sym (made judged.1)) (unsafe place judged.1 judged.0)

pub safe_sandboxed : (m : Module) → SandboxLaw → IsWhole m → IsBytes m.image.bytes → (tables : Tables) → IsVerdict m (verdict.Safe tables) → IsSandboxedFile m.image.bytes
safe_sandboxed m law whole bytes tables judged =
    let file = m.image.bytes in
    let declared : m ≡ declared_module file = sym (declared_is m whole) in
    let are_safe = subst (λ (n : Module). AreSafe n tables) declared judged.2 in
    record {
      rules = whole.rules;
      tables = tables;
      least = subst (λ (n : Module). AreLeast n tables) declared judged.1;
      are_safe = are_safe;
      sandboxed = law file tables whole.rules bytes are_safe;
    }
