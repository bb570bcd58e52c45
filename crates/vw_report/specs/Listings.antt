-- Functions and points with the parts of their states, as the items of a report's lines.
use Rattle.std.specs.Prelude.{◌≡◌, ℕ, suc, ◌+◌, ◌≤◌, ◌⊎◌, length, List, [], ◌∷◌, ◌++◌, Some}
use Rattle.vw_domain.specs.declared.state_parts.StateParts.{StateParts}
use Rattle.vw_domain.specs.declared.parts.Parts.{Parts}
use Rattle.vw_domain.specs.PartRanges.{IsStateOf}
use Rattle.vw_domain.specs.StateParts.{IsPointState}
use Rattle.vw_state.specs.declared.tables.PointState.{PointState}
use Rattle.vw_state.specs.declared.tables.FunctionTable.{FunctionTable}
use Rattle.vw_report.specs.Lines.{ListedPoint, ListedFunction, first_line, last_line}
use Rattle.vw_report.specs.ReportText.{AreListedPoints, AreListedFunctions}
use Rattle.vw_report.specs.Grammar.{point_item, entry_item}
use Rattle.vw_report.specs.Reports.{AreLines, IsFault}
use Rattle.vw_report.specs.declared.fail.Fail.{Fail}
use Rattle.vw_report.specs.declared.fail.Fail.TheVariants as fails
use Rattle.vw_report.specs.declared.read_tables.Stop.{Stop}
use Rattle.vw_report.specs.declared.read_tables.Stop.TheVariants as stops

abbrev pub points_text : List ListedPoint → List ℕ
points_text [] = []
points_text (p ∷ ps) = point_item.text p ++ points_text ps

abbrev pub functions_text : List ListedFunction → List ℕ
functions_text [] = []
functions_text (f ∷ fs) = entry_item.text f.entry ++ (points_text f.points ++ functions_text fs)

abbrev pub listing_text : List ListedFunction → List ℕ
listing_text fs = first_line ++ (functions_text fs ++ last_line)

-- parts that some state between two instructions has
pub record HasState (parts : StateParts) : Type 0 where
  pub state : Parts
  pub is : IsStateOf parts state

abbrev pub IsPoint : ListedPoint → Type 0
IsPoint p = point_item.Is p × HasState p.parts

abbrev pub ArePointItems : ℕ → List ListedPoint → Type 0
ArePointItems low [] = Unit {0}
ArePointItems low (p ∷ ps) = (low ≤ p.at) × IsPoint p × ArePointItems (suc p.at) ps

abbrev pub AreFunctionItems : ℕ → List ListedFunction → Type 0
AreFunctionItems low [] = Unit {0}
AreFunctionItems low (f ∷ fs) = (low ≤ f.entry) × entry_item.Is f.entry × ArePointItems 0 f.points × AreFunctionItems (suc f.entry) fs

-- ---- what may come after some functions, the last of which may go on

abbrev pub points_low : ℕ → List ListedPoint → ℕ
points_low low [] = low
points_low low (p ∷ ps) = points_low (suc p.at) ps

abbrev pub functions_low : ℕ → List ListedFunction → ℕ
functions_low low [] = low
functions_low low (f ∷ fs) = functions_low (suc f.entry) fs

pub record NextPoint (ps : List ListedPoint) (rest : List ℕ) : Type 0 where
  pub point : ListedPoint
  pub more : List ℕ
  pub low : points_low 0 ps ≤ point.at
  pub fits : IsPoint point
  pub rest_is : rest ≡ point_item.text point ++ more

abbrev pub PointGoesOn : List ListedFunction → List ℕ → Type 0
PointGoesOn [] rest = ⊥
PointGoesOn (f ∷ []) rest = NextPoint f.points rest
PointGoesOn (f ∷ g ∷ fs) rest = PointGoesOn (g ∷ fs) rest

pub record NextFunction (low : ℕ) (rest : List ℕ) : Type 0 where
  pub entry : ℕ
  pub more : List ℕ
  pub low_is : low ≤ entry
  pub fits : entry_item.Is entry
  pub rest_is : rest ≡ entry_item.text entry ++ more

abbrev pub GoesOn : ℕ → List ListedFunction → List ℕ → Type 0
GoesOn low fs rest = ((more : List ℕ) × (rest ≡ last_line ++ more)) ⊎ (NextFunction (functions_low low fs) rest ⊎ PointGoesOn fs rest)

-- some listing's text begins with the first n lines of the bytes
pub record ListingAgrees (bytes : List ℕ) (n : ℕ) : Type 0 where
  pub listing : List ListedFunction
  pub front : List ℕ
  pub rest : List ℕ
  pub more : List ℕ
  pub are : AreFunctionItems 0 listing
  pub lines : AreLines n front
  pub bytes_are : bytes ≡ front ++ rest
  pub text_is : listing_text listing ≡ front ++ more

pub record IsListingFault (bytes : List ℕ) (line : ℕ) : Type 0 where
  pub before : ℕ
  pub line_is : line ≡ before + 1
  pub agrees : ListingAgrees bytes before
  pub no_further : ListingAgrees bytes (before + 1) → ⊥
  pub no_report : (fs : List ListedFunction) → AreFunctionItems 0 fs → bytes ≡ listing_text fs → ⊥

-- ---- what the readers of lines answer

-- each state is one between two instructions
abbrev pub ArePointStates : List PointState → Type 0
ArePointStates [] = Unit {0}
ArePointStates (p ∷ ps) = IsPointState p.state × ArePointStates ps

abbrev pub AreFunctionStates : List FunctionTable → Type 0
AreFunctionStates [] = Unit {0}
AreFunctionStates (f ∷ fs) = ArePointStates f.states × AreFunctionStates fs

-- the bytes begin with a point's line
pub record ReadsPoint (bytes : List ℕ) (point : PointState) (rest : List ℕ) : Type 0 where
  pub parts : StateParts
  pub read : point_item.read bytes ≡ Some (record { at = point.at; parts = parts }, rest)
  pub state : IsStateOf parts point.state

-- they do not
abbrev pub HasNoPoint : List ℕ → Type 0
HasNoPoint bytes = (p : ListedPoint) (more : List ℕ) → IsPoint p → bytes ≡ point_item.text p ++ more → ⊥

abbrev pub FailsAtPoint : List ℕ → Fail → Type 0
FailsAtPoint bytes (fails.Memory refused) = Unit {0}
FailsAtPoint bytes fails.Bad = HasNoPoint bytes

-- points were read that have these parts
pub record PointsAre (bytes : List ℕ) (points : List PointState) (rest : List ℕ) : Type 0 where
  pub listed : List ListedPoint
  pub same : AreListedPoints points listed
  pub states : ArePointStates points
  pub are : ArePointItems 0 listed
  pub bytes_are : bytes ≡ points_text listed ++ rest

pub record PointsDone (bytes : List ℕ) (points : List PointState) (rest : List ℕ) : Type 0 where
  pub read : PointsAre bytes points rest
  pub stuck : NextPoint read.listed rest → ⊥

-- a point's line begins here, and is none that may come
pub record PointsStop (bytes stop : List ℕ) : Type 0 where
  pub listed : List ListedPoint
  pub are : ArePointItems 0 listed
  pub bytes_are : bytes ≡ points_text listed ++ stop
  pub begins : (tail : List ℕ) × (stop ≡ 97 ∷ tail)
  pub stuck : NextPoint listed stop → ⊥

abbrev pub PointsStopped : List ℕ → Stop → Type 0
PointsStopped bytes (stops.Memory refused) = Unit {0}
PointsStopped bytes (stops.At left) = (stop : List ℕ) × (length stop ≡ left) × PointsStop bytes stop

pub record FunctionsAre (bytes : List ℕ) (functions : List FunctionTable) (rest : List ℕ) : Type 0 where
  pub listed : List ListedFunction
  pub same : AreListedFunctions functions listed
  pub states : AreFunctionStates functions
  pub are : AreFunctionItems 0 listed
  pub bytes_are : bytes ≡ functions_text listed ++ rest

pub record FunctionsDone (bytes : List ℕ) (functions : List FunctionTable) (rest : List ℕ) : Type 0 where
  pub read : FunctionsAre bytes functions rest
  pub no_function : NextFunction (functions_low 0 read.listed) rest → ⊥
  pub no_point : PointGoesOn read.listed rest → ⊥

pub record FunctionsStop (bytes stop : List ℕ) : Type 0 where
  pub listed : List ListedFunction
  pub are : AreFunctionItems 0 listed
  pub bytes_are : bytes ≡ functions_text listed ++ stop
  pub stuck : GoesOn 0 listed stop → ⊥

abbrev pub FunctionsStopped : List ℕ → Stop → Type 0
FunctionsStopped bytes (stops.Memory refused) = Unit {0}
FunctionsStopped bytes (stops.At left) = (stop : List ℕ) × (length stop ≡ left) × FunctionsStop bytes stop

-- reading stopped behind n lines, and the next is the first faulty one
pub record FaultAt (bytes stop : List ℕ) : Type 0 where
  pub front : List ℕ
  pub count : ℕ
  pub bytes_are : bytes ≡ front ++ stop
  pub lines : AreLines count front
  pub fault : IsFault bytes (count + 1)

abbrev pub ReportStopped : List ℕ → Stop → Type 0
ReportStopped bytes (stops.Memory refused) = Unit {0}
ReportStopped bytes (stops.At left) = (stop : List ℕ) × (length stop ≡ left) × FaultAt bytes stop
