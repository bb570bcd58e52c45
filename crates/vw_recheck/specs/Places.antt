-- Where given tables of a module are not safe, by the entries of functions, the offsets of points and the numbers of checks.
use Rattle.std.specs.Prelude.{◌≡◌, ◌⊎◌, ◌<◌, ◌≤◌, ℕ, suc, List, [], ◌∷◌, Option, None, Some, length, Contains}
use Rattle.std.specs.List.{All, slice_get}
use Rattle.vw_layout.specs.declared.functions.Function.{Function}
use Rattle.vw_layout.specs.declared.layout.Module.{Module}
use Rattle.vw_domain.specs.declared.parts.Parts.{Parts}
use Rattle.vw_domain.specs.State.{entry_state}
use Rattle.vw_state.specs.declared.tables.FunctionTable.{FunctionTable}
use Rattle.vw_state.specs.declared.tables.Place.{Place}
use Rattle.vw_state.specs.declared.tables.PointState.{PointState}
use Rattle.vw_state.specs.declared.tables.Tables.{Tables}
use Rattle.vw_state.specs.Context.{Context, context_of}
use Rattle.vw_state.specs.Post.{edges_at}
use Rattle.vw_state.specs.Solution.{Lands}
use Rattle.vw_state.specs.Tables.{state_of}
use Rattle.vw_checks.specs.Checks.{Fails, Passes}
use Rattle.vw_checks.specs.Modules.{AreSafe}
use Rattle.vw_checks.specs.Safe.{IsSafeTable}

-- ---- tables as they are given

-- the numbers ascend, so that none is there twice, and none is below `from`
abbrev pub Ascend : {A : Type 0} → (A → ℕ) → ℕ → List A → Type 0
Ascend key from [] = Unit {0}
Ascend key from (x ∷ rest) = (from ≤ key x) × Ascend key (suc (key x)) rest

-- the points of a table ascend, and none is below `from`
abbrev pub PointsAscend : ℕ → List PointState → Type 0
PointsAscend = Ascend (λ (p : PointState). p.at)

-- tables stand by ascending entries of functions
abbrev pub EntriesAscend : Tables → Type 0
EntriesAscend tables = Ascend (λ (t : FunctionTable). t.entry) 0 tables.functions

-- ---- at a point of a table

-- What fails at a point of a table with its state, by number. 0: an edge from it does not land below its target's state.
abbrev pub PointFails : Context → List PointState → ℕ → Parts → ℕ → Type 0
PointFails f table at state number = ((number ≡ 0) × (All (Lands f table) (edges_at f at state) → ⊥)) ⊎ Fails f at state number

-- The lowest number of what fails at a point with its state; None: each edge lands, and no check fails.
abbrev pub IsLowestAt : Context → List PointState → ℕ → Parts → Option ℕ → Type 0
IsLowestAt f table at state None = All (Lands f table) (edges_at f at state) × Passes f at state
IsLowestAt f table at state (Some lowest) =
    PointFails f table at state lowest × ((number : ℕ) → PointFails f table at state number → lowest ≤ number)

-- the one edge goes to the point with this number, with the state that the table gives it
abbrev pub IsEdgeTo : List PointState → ℕ → List (ℕ × Parts) → Type 0
IsEdgeTo table next edges = (p : PointState) → slice_get table next ≡ Some p → edges ≡ (p.at, p.state) ∷ []

-- ---- in the table of a function

-- Where a table of a function is not safe, by offset and number: 0 where it is no solution, and else a check.
pub data FailsIn (f : Context) (table : List PointState) : ℕ → ℕ → Type 0 where
  -- at offset 0: the points do not ascend, so that it is no table
  unordered : (PointsAscend 0 table → ⊥) → FailsIn f table 0 0
  -- at offset 0: the entry state is missing or not covered
  begins : (Lands f table (0, entry_state) → ⊥) → FailsIn f table 0 0
  -- at a point of the table
  point : (at number : ℕ) (state : Parts) → state_of table at ≡ Some state
      → PointFails f table at state number → FailsIn f table at number

-- The lowest offset at which a table is not safe, with the lowest number there; None: it is safe.
abbrev pub IsLowestIn : Context → List PointState → Option (ℕ × ℕ) → Type 0
IsLowestIn f table None = IsSafeTable f table
IsLowestIn f table (Some place) =
    FailsIn f table place.0 place.1
    × ((at number : ℕ) → FailsIn f table at number → (place.0 < at) ⊎ ((place.0 ≡ at) × (place.1 ≤ number)))

-- ---- in tables of a module

-- Where tables are not safe, by entry, offset and number.
pub data FailsAt (m : Module) (tables : Tables) : ℕ → ℕ → ℕ → Type 0 where
  -- a function with this entry is not declared
  undeclared : (t : FunctionTable) → Contains tables.functions t
      → ((f : Function) → Contains m.functions f → f.entry ≡ t.entry → ⊥) → FailsAt m tables t.entry 0 0
  -- a declared function has no table, so its entry state is missing
  missing : (f : Function) → Contains m.functions f
      → ((t : FunctionTable) → Contains tables.functions t → t.entry ≡ f.entry → ⊥) → FailsAt m tables f.entry 0 0
  -- in the table of a declared function
  inside : (f : Function) (t : FunctionTable) (at number : ℕ) → Contains m.functions f → Contains tables.functions t
      → t.entry ≡ f.entry → FailsIn (context_of m f) t.states at number → FailsAt m tables f.entry at number

-- a place is not above another: by entry, then by offset, then by number
abbrev pub NotAbove : Place → ℕ → ℕ → ℕ → Type 0
NotAbove p entry at number =
    (p.entry < entry) ⊎ ((p.entry ≡ entry) × ((p.at < at) ⊎ ((p.at ≡ at) × (p.check ≤ number))))

-- The lowest place at which tables are not safe; None: they are safe.
abbrev pub IsLowestPlace : Module → Tables → Option Place → Type 0
IsLowestPlace m tables None = AreSafe m tables
IsLowestPlace m tables (Some p) =
    FailsAt m tables p.entry p.at p.check
    × ((entry at number : ℕ) → FailsAt m tables entry at number → NotAbove p entry at number)

-- The place of a declared function beside a given table; None: this is a safe table of the function. Where their entries
-- differ, the lower is at fault: the function has no table, or the table no declared function.
abbrev pub IsPlaceOf : Module → Function → FunctionTable → Option Place → Type 0
IsPlaceOf m f t None = (t.entry ≡ f.entry) × IsSafeTable (context_of m f) t.states
IsPlaceOf m f t (Some p) =
    ((p.entry ≡ f.entry) × ((p.at ≡ 0) × (p.check ≡ 0)) × (f.entry < t.entry))
    ⊎ ((p.entry ≡ t.entry) × ((p.at ≡ 0) × (p.check ≡ 0)) × (t.entry < f.entry))
    ⊎ ((p.entry ≡ f.entry) × (t.entry ≡ f.entry) × IsLowestIn (context_of m f) t.states (Some (p.at, p.check)))

-- What is left of functions and tables from a number on, of which not both go on: the place of a function without a table,
-- or of a table without a function; None: nothing is left.
abbrev pub IsFirstLeft : List Function → List FunctionTable → ℕ → Option Place → Type 0
IsFirstLeft functions tables number None = (length functions ≤ number) × (length tables ≤ number)
IsFirstLeft functions tables number (Some p) =
    ((p.at ≡ 0) × (p.check ≡ 0))
    × (((f : Function) × (slice_get functions number ≡ Some f) × (p.entry ≡ f.entry))
    ⊎ ((length functions ≤ number) × ((t : FunctionTable) × (slice_get tables number ≡ Some t) × (p.entry ≡ t.entry))))
