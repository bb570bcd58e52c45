-- What the program answers where it tests itself: it makes a module, judges it, and reads and rechecks the report of its tables.
use Rattle.std.specs.Prelude.{◌≡◌, ℕ, List, length, Some, None}
use Rattle.std.specs.List.{sum_by}
use Rattle.vw_layout.specs.declared.layout.Module.{Module}
use Rattle.vw_layout.specs.Layout.{module_fault}
use Rattle.vw_state.specs.declared.tables.FunctionTable.{FunctionTable}
use Rattle.vw_state.specs.declared.tables.Tables.{Tables}
use Rattle.vw_checks.specs.Modules.{AreLeast}
use Rattle.vw_machine.specs.Module.{declared_module}
use Rattle.vw_make.specs.Generator.{generated_parts}
use Rattle.vw_make.specs.Module.{module_bytes}
use Rattle.vw_app.specs.Judged.{Judged}
use Rattle.vw_app.specs.Lines.{malformed_line, selftest_line}

-- the file of the module of so many functions that is made from a number
abbrev pub made_file : ℕ → ℕ → List ℕ
made_file functions number = module_bytes (generated_parts functions number)

-- how many points these tables give a state, all functions together
abbrev pub number_of_states : List FunctionTable → ℕ
number_of_states tables = sum_by (λ table. length table.states) tables

-- the line of a safe module: how many functions it has, and how many states stand in its least tables
pub record IsTestedLine (m : Module) (text : List ℕ) : Type 0 where
  pub tables : Tables
  pub least : AreLeast m tables
  pub printed : text ≡ selftest_line (length m.functions) (number_of_states tables.functions)

-- The status and the text that answer a test with the module of so many functions that is made from a number: the first
-- broken rule where its file is no module, and else the verdict on it.
pub data SelfTested (functions number : ℕ) : ℕ → List ℕ → Type 0 where
  malformed : (rule offset : ℕ) → module_fault (made_file functions number) ≡ Some (rule, offset)
      → SelfTested functions number 2 (malformed_line rule offset)
  judged : (status : ℕ) (text : List ℕ) → module_fault (made_file functions number) ≡ None
      → Judged (declared_module (made_file functions number)) (IsTestedLine (declared_module (made_file functions number))) status text
      → SelfTested functions number status text
