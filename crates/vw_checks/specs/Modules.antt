-- Tables of a module's functions.
use Rattle.std.specs.Prelude.{◌≡◌, ℕ, List, [], ◌∷◌, Some}
use Rattle.std.specs.List.{slice_get}
use Rattle.vw_layout.specs.declared.functions.Function.{Function}
use Rattle.vw_layout.specs.declared.layout.Module.{Module}
use Rattle.vw_state.specs.declared.tables.FunctionTable.{FunctionTable}
use Rattle.vw_state.specs.declared.tables.PointState.{PointState}
use Rattle.vw_state.specs.declared.tables.Tables.{Tables}
use Rattle.vw_state.specs.Context.{Context, context_of}
use Rattle.vw_state.specs.Rounds.{IsLeast}
use Rattle.vw_checks.specs.Safe.{IsSafeTable, HasSafeTable}

-- the function with this number, counted from 0 by address
abbrev pub IsNumbered : Module → ℕ → Function → Type 0
IsNumbered m number f = slice_get m.functions number ≡ Some f

-- One table for each of these functions of a module, in their order, of which this holds.
abbrev pub TablesOf : (Context → List PointState → Type 0) → Module → List Function → List FunctionTable → Type 0
TablesOf Holds m [] [] = Unit {0}
TablesOf Holds m (f ∷ functions) (t ∷ tables) = (t.entry ≡ f.entry) × Holds (context_of m f) t.states × TablesOf Holds m functions tables
TablesOf Holds m [] (t ∷ tables) = ⊥
TablesOf Holds m (f ∷ functions) [] = ⊥

-- tables are safe: they name exactly the declared functions, each with a safe table
abbrev pub AreSafe : Module → Tables → Type 0
AreSafe m tables = TablesOf IsSafeTable m m.functions tables.functions

-- the least tables of the declared functions
abbrev pub AreLeast : Module → Tables → Type 0
AreLeast m tables = TablesOf IsLeast m m.functions tables.functions

-- every declared function has a safe table
abbrev pub EachHasSafeTable : Module → Type 0
EachHasSafeTable m = (number : ℕ) (f : Function) → IsNumbered m number f → HasSafeTable (context_of m f)
