-- What `check` answers to a report: a status and a text, and what status 0 says.
use Rattle.std.specs.Prelude.{◌≡◌, ℕ, ◌^◌, ◌<◌, ◌≤◌, List, length, codes, Some, Contains}
use Rattle.vw_layout.specs.declared.functions.Function.{Function}
use Rattle.vw_layout.specs.declared.layout.Module.{Module}
use Rattle.vw_layout.specs.Layout.{IsModule}
use Rattle.vw_state.specs.declared.tables.Place.{Place}
use Rattle.vw_state.specs.declared.tables.Tables.{Tables}
use Rattle.vw_checks.specs.Modules.{AreSafe}
use Rattle.vw_recheck.specs.Places.{IsLowestPlace}
use Rattle.vw_report.specs.Reports.{IsReport, IsFault}
use Rattle.vw_machine.specs.Module.{declared_module, module_of}
use Rattle.vw_sandbox.specs.Maps.{IsSandboxedBy}
use Rattle.vw_sandbox.specs.MapOf.{map_of}
use Rattle.vw_app.specs.Lines.{safe_line, unsafe_line, bad_report_line}

-- the most bytes that a report may have
abbrev pub longest_report : ℕ
longest_report = 2 ^ 29

-- The name that stands for an address in a line: that of the declared function that begins there, and `?` where none does.
pub data IsNameAt (m : Module) (entry : ℕ) : List ℕ → Type 0 where
  declared : (f : Function) → Contains m.functions f → f.entry ≡ entry → IsNameAt m entry f.name
  undeclared : ((f : Function) → Contains m.functions f → f.entry ≡ entry → ⊥) → IsNameAt m entry (codes "?")

-- the line of a place of a module
pub record IsPlaceLine (m : Module) (place : Place) (text : List ℕ) : Type 0 where
  pub name : List ℕ
  pub named : IsNameAt m place.entry name
  pub is : text ≡ unsafe_line name place.at place.check

-- The status and the text that answer tables of a module: 0 exactly where they are safe, be they the least or others, and
-- else 1, with the lowest place at which they are not.
pub data Rechecked (m : Module) (tables : Tables) : ℕ → List ℕ → Type 0 where
  accepted : AreSafe m tables → Rechecked m tables 0 (safe_line (length m.functions))
  refused : (place : Place) (text : List ℕ) → (AreSafe m tables → ⊥) → IsLowestPlace m tables (Some place) → IsPlaceLine m place text → Rechecked m tables 1 text

-- The status and the text that answer the bytes of a report on a module: 7 exactly where there are more than a report may
-- have, with line 0, or they are no report's text, with the first line in error; and else those that answer its tables.
pub data Checked (m : Module) (report : List ℕ) : ℕ → List ℕ → Type 0 where
  too_long : longest_report < length report → Checked m report 7 (bad_report_line 0)
  faulty : (number : ℕ) → length report ≤ longest_report → IsFault report number → Checked m report 7 (bad_report_line number)
  rechecked : (tables : Tables) (status : ℕ) (text : List ℕ) → length report ≤ longest_report → IsReport tables report → Rechecked m tables status text → Checked m report status text

-- The file is a module, and the report is the text of safe tables: every run stays in the sandbox and keeps to these tables.
pub record IsSandboxedByReport (file report : List ℕ) : Type 0 where
  pub rules : IsModule file
  pub tables : Tables
  pub printed : IsReport tables report
  pub are_safe : AreSafe (declared_module file) tables
  pub sandboxed : IsSandboxedBy (module_of file) (map_of (declared_module file) tables)
