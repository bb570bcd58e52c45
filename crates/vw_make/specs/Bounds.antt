-- What the parts of a module have to meet.
use Rattle.std.specs.Prelude.{ℕ, ◌+◌, ◌*◌, ◌<◌, ◌≤◌, ◌⊎◌, ⊤, List, length, Option, Some, None, All, AllPairs, Contains}
use Rattle.vw_make.specs.declared.parts.Parts.{Parts}
use Rattle.vw_make.specs.declared.parts.Func.{Func}
use Rattle.vw_make.specs.declared.parts.Target.{Target}
use Rattle.vw_make.specs.declared.parts.Target.TheVariants.{Function, Stub, Tables, Data}
use Rattle.vw_make.specs.Layout.{file_size}

-- a target is there: the function, the stub, the byte of `lucet_tables`, the byte of the data
abbrev pub IsThere : Parts → Target → Type 0
IsThere parts (Function number) = number < length parts.functions
IsThere parts (Stub number) = number < length parts.imports
IsThere parts (Tables byte) = byte < 16 * length parts.tables
IsThere parts (Data byte) = byte < length parts.content

-- `size` bytes from the offset of one and `size` bytes from that of the other have none in common
abbrev pub AreApart : {X : Type 0} → ℕ → ℕ × X → ℕ × X → Type 0
AreApart size a b = (a.0 + size ≤ b.0) ⊎ (b.0 + size ≤ a.0)

-- at most n items differ from one another: each is among n
pub record HasAtMost {X : Type 0} (n : ℕ) (items : List X) : Type 0 where
  pub different : List X
  pub few : length different ≤ n
  pub each : All (Contains different) items

-- a fix: its four bytes lie in the code, and its target is there
pub record FixFits (parts : Parts) (f : Func) (fix : ℕ × Target) : Type 0 where
  pub inside : fix.0 + 4 ≤ length f.code
  pub target : IsThere parts fix.1

-- a function
pub record FuncFits (parts : Parts) (f : Func) : Type 0 where
  pub name : length f.name ≤ 1024
  pub code : length f.code ≤ 1048576
  pub fixes : All (FixFits parts f) f.fixes
  pub apart : AllPairs (AreApart 4) f.fixes

-- an entry of a table: the function that it names is there
abbrev pub EntryFits : Parts → ℕ × Option ℕ → Type 0
EntryFits parts (tag, None) = ⊤
EntryFits parts (tag, Some number) = number < length parts.functions

-- a table
pub record TableFits (parts : Parts) (entries : List (ℕ × Option ℕ)) : Type 0 where
  pub few : length entries ≤ 65536
  pub each : All (EntryFits parts) entries

-- a bind: its eight bytes lie in the data, and its import is there
pub record BindFits (parts : Parts) (bind : ℕ × ℕ) : Type 0 where
  pub inside : bind.0 + 8 ≤ length parts.content
  pub import : bind.1 < length parts.imports

-- The numbers name things that are there, the fields that are written lie in their code or in the data and
-- share no byte, and the limits of a module hold.
pub record MeetsBounds (parts : Parts) : Type 0 where
  pub few_functions : length parts.functions ≤ 65536
  pub functions : All (FuncFits parts) parts.functions
  pub few_imports : HasAtMost 65536 parts.imports
  pub imports : All (λ name. length name ≤ 1024) parts.imports
  pub few_tables : length parts.tables ≤ 64
  pub tables : All (TableFits parts) parts.tables
  pub binds : All (BindFits parts) parts.binds
  pub apart : AllPairs (AreApart 8) parts.binds
  pub size : file_size parts ≤ 67108864
