-- The text of the report of tables.
use Rattle.std.specs.Prelude.{◌≡◌, ℕ, List, [], ◌∷◌, ◌++◌}
use Rattle.std.specs.List.{flat_map}
use Rattle.vw_domain.specs.StateParts.{HasParts}
use Rattle.vw_state.specs.declared.tables.PointState.{PointState}
use Rattle.vw_state.specs.declared.tables.FunctionTable.{FunctionTable}
use Rattle.vw_state.specs.declared.tables.Tables.{Tables}
use Rattle.vw_report.specs.Lines.{ListedPoint, ListedFunction, point_line, function_lines, report_text}

-- ---- the parts of tables

pub record IsListedPoint (point : PointState) (listed : ListedPoint) : Type 0 where
  pub at : listed.at ≡ point.at
  pub parts : HasParts point.state listed.parts

abbrev pub AreListedPoints : List PointState → List ListedPoint → Type 0
AreListedPoints [] [] = Unit {0}
AreListedPoints [] (l ∷ ls) = ⊥
AreListedPoints (p ∷ ps) [] = ⊥
AreListedPoints (p ∷ ps) (l ∷ ls) = IsListedPoint p l × AreListedPoints ps ls

pub record IsListedFunction (function : FunctionTable) (listed : ListedFunction) : Type 0 where
  pub entry : listed.entry ≡ function.entry
  pub points : AreListedPoints function.states listed.points

abbrev pub AreListedFunctions : List FunctionTable → List ListedFunction → Type 0
AreListedFunctions [] [] = Unit {0}
AreListedFunctions [] (l ∷ ls) = ⊥
AreListedFunctions (f ∷ fs) [] = ⊥
AreListedFunctions (f ∷ fs) (l ∷ ls) = IsListedFunction f l × AreListedFunctions fs ls

-- the text of the tables' report
pub record IsTextOf (tables : Tables) (text : List ℕ) : Type 0 where
  pub functions : List ListedFunction
  pub listed : AreListedFunctions tables.functions functions
  pub text_is : text ≡ report_text functions

-- ---- what is appended to a text

-- the line of a point
pub record AppendsPoint (point : PointState) (old new : List ℕ) : Type 0 where
  pub listed : ListedPoint
  pub is : IsListedPoint point listed
  pub text_is : new ≡ old ++ point_line listed

-- those of some points
pub record AppendsPoints (points : List PointState) (old new : List ℕ) : Type 0 where
  pub listed : List ListedPoint
  pub are : AreListedPoints points listed
  pub text_is : new ≡ old ++ flat_map point_line listed

-- those of some functions
pub record AppendsFunctions (functions : List FunctionTable) (old new : List ℕ) : Type 0 where
  pub listed : List ListedFunction
  pub are : AreListedFunctions functions listed
  pub text_is : new ≡ old ++ flat_map function_lines listed
