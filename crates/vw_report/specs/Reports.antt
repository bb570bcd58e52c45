-- Reports: which texts are those of tables, and the first line of bytes up to which no report's text agrees.
use Rattle.std.specs.Prelude.{◌≡◌, ℕ, zero, suc, ◌+◌, ◌^◌, ◌<◌, ◌≤◌, List, [], ◌∷◌, ◌++◌, nat_eq, false}
use Rattle.std.specs.List.{All}
use Rattle.vw_domain.specs.State.{IsState}
use Rattle.vw_domain.specs.StateParts.{IsPointState}
use Rattle.vw_state.specs.declared.tables.PointState.{PointState}
use Rattle.vw_state.specs.declared.tables.FunctionTable.{FunctionTable}
use Rattle.vw_state.specs.declared.tables.Tables.{Tables}
use Rattle.vw_report.specs.ReportText.{IsTextOf}
use Rattle.vw_report.specs.declared.read_tables.ReportError.{ReportError}
use Rattle.vw_report.specs.declared.read_tables.ReportError.TheVariants as error

-- points that ascend strictly from an offset on, with states between two instructions
abbrev pub ArePoints : ℕ → List PointState → Type 0
ArePoints low [] = Unit {0}
ArePoints low (p ∷ ps) = (low ≤ p.at) × (p.at < 2 ^ 32) × IsPointState p.state × ArePoints (suc p.at) ps

-- functions that ascend strictly from an entry on, with such points
abbrev pub AreFunctions : ℕ → List FunctionTable → Type 0
AreFunctions low [] = Unit {0}
AreFunctions low (f ∷ fs) = (low ≤ f.entry) × (f.entry < 2 ^ 64) × ArePoints 0 f.states × AreFunctions (suc f.entry) fs

-- the tables of a report and its text
pub record IsReport (tables : Tables) (text : List ℕ) : Type 0 where
  pub functions : AreFunctions 0 tables.functions
  pub printed : IsTextOf tables text

-- ---- faults

-- no byte is a newline
abbrev pub IsPlain : List ℕ → Type 0
IsPlain [] = Unit {0}
IsPlain (b ∷ bs) = (nat_eq b 10 ≡ false) × IsPlain bs

-- n lines, each with its newline
abbrev pub AreLines : ℕ → List ℕ → Type 0
AreLines zero front = front ≡ []
AreLines (suc n) front = (body others : List ℕ) × IsPlain body × AreLines n others × (front ≡ body ++ 10 ∷ others)

-- the bytes have n lines, and some report's text begins with them
pub record Agrees (bytes : List ℕ) (n : ℕ) : Type 0 where
  pub tables : Tables
  pub text : List ℕ
  pub report : IsReport tables text
  pub front : List ℕ
  pub rest : List ℕ
  pub more : List ℕ
  pub lines : AreLines n front
  pub bytes_are : bytes ≡ front ++ rest
  pub text_is : text ≡ front ++ more

-- The bytes are no report's text, and this is the first of their lines, counted from 1, up to which none agrees: a last
-- line without its newline agrees with none, and so does the line behind the last.
pub record IsFault (bytes : List ℕ) (line : ℕ) : Type 0 where
  pub before : ℕ
  pub line_is : line ≡ before + 1
  pub agrees : Agrees bytes before
  pub no_further : Agrees bytes (before + 1) → ⊥
  pub no_report : (t : Tables) → IsReport t bytes → ⊥

abbrev pub IsRefused : List ℕ → ReportError → Type 0
IsRefused bytes (error.Fault line) = IsFault bytes line
IsRefused bytes (error.Memory refused) = Unit {0}

-- ---- laws

-- no two tables have one text
abbrev pub TextsTellTables : Type 0
TextsTellTables = (t u : Tables) (text : List ℕ) → IsReport t text → IsReport u text → t ≡ u

-- what a function's table gives its points are states
abbrev pub AreStates : FunctionTable → Type 0
AreStates f = All (λ p. IsState p.state) f.states

-- tables have one text
abbrev pub TablesHaveOneText : Type 0
TablesHaveOneText = (t : Tables) (text other : List ℕ) → All AreStates t.functions → IsTextOf t text → IsTextOf t other → text ≡ other
