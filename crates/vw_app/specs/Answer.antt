-- What the program answers: a status and a text.
use Rattle.std.specs.Prelude.{◌≡◌, ℕ, ◌^◌, ◌<◌, ◌≤◌, List, [], ◌∷◌, length, codes, Option, Some, None, IfSome, Bool, true}
use Rattle.std.specs.Fmt.{decimal}
use Rattle.vw_outside.specs.Shelf.{Rose}
use Rattle.vw_dynamic.specs.Dynamic.{file_imports}
use Rattle.vw_layout.specs.declared.layout.Module.{Module}
use Rattle.vw_layout.specs.Layout.{module_fault, declared_functions, declared_tables}
use Rattle.vw_app.specs.declared.request.Command.{Command}
use Rattle.vw_app.specs.declared.request.Command.TheVariants as command
pub use Rattle.vw_app.specs.Judged.{Judged, safe, unsafe}
use Rattle.vw_app.specs.Lines.{usage_line, safe_line, read_fault_line, malformed_line, info_text}
use Rattle.vw_app.specs.Listing.{IsListing}
use Rattle.vw_app.specs.Check.{Checked}
use Rattle.vw_app.specs.Selftest.{made_file, SelfTested}
use Rattle.vw_state.specs.declared.tables.Tables.{Tables}
use Rattle.vw_checks.specs.Modules.{AreLeast, EachHasSafeTable}
use Rattle.vw_machine.specs.Module.{declared_module}
use Rattle.vw_report.specs.ReportText.{IsTextOf}

-- the line of a safe module
abbrev pub IsSafeLine : Module → List ℕ → Type 0
IsSafeLine m text = text ≡ safe_line (length m.functions)

-- the report of a module's least tables
pub record IsLeastReport (m : Module) (text : List ℕ) : Type 0 where
  pub tables : Tables
  pub least : AreLeast m tables
  pub printed : IsTextOf tables text

-- the status and the text of the verdict on the module of a file
abbrev pub Verified : List ℕ → ℕ → List ℕ → Type 0
Verified file = Judged (declared_module file) (IsSafeLine (declared_module file))

-- the same with the report of a safe module
abbrev pub Reported : List ℕ → ℕ → List ℕ → Type 0
Reported file = Judged (declared_module file) (IsLeastReport (declared_module file))

-- the status and the text that show what a module declares
abbrev pub Shown : List ℕ → ℕ → List ℕ → Type 0
Shown file status text = (status ≡ 0) × (text ≡ info_text (declared_functions file) (declared_tables file) (file_imports file))

-- the status and the text that list a module's code, whatever the verdict is
abbrev pub Listed : List ℕ → ℕ → List ℕ → Type 0
Listed file status text = (status ≡ 0) × IsListing (declared_module file) text

-- the status and the text that a command gives for a module
abbrev pub Done : Command → List ℕ → ℕ → List ℕ → Type 0
Done command.Verify = Verified
Done command.Report = Reported
Done command.List = Listed
Done command.Info = Shown

-- the status and the text that a command gives for the bytes of a file
pub data Answered (command : Command) (file : List ℕ) : ℕ → List ℕ → Type 0 where
  malformed : (rule offset : ℕ) → module_fault file ≡ Some (rule, offset) → Answered command file 2 (malformed_line rule offset)
  done : (status : ℕ) (text : List ℕ) → module_fault file ≡ None → Done command file status text → Answered command file status text

-- the commands that answer the verdict
abbrev pub Judges : Command → Type 0
Judges command.Verify = Unit {0}
Judges command.Report = Unit {0}
Judges command.List = ⊥
Judges command.Info = ⊥

-- what a command asks of a module, so that its answer has status 0: `verify` and `report`, that every function has a safe
-- table; `list` and `info`, nothing
abbrev pub IsAccepted : Command → List ℕ → Type 0
IsAccepted command.Verify file = EachHasSafeTable (declared_module file)
IsAccepted command.Report file = EachHasSafeTable (declared_module file)
IsAccepted command.List file = Unit {0}
IsAccepted command.Info file = Unit {0}

-- the text of that answer
abbrev pub IsAcceptedText : Command → List ℕ → List ℕ → Type 0
IsAcceptedText command.Verify file text = IsSafeLine (declared_module file) text
IsAcceptedText command.Report file text = IsLeastReport (declared_module file) text
IsAcceptedText command.List file text = IsListing (declared_module file) text
IsAcceptedText command.Info file text = text ≡ info_text (declared_functions file) (declared_tables file) (file_imports file)

-- the word of a command
abbrev pub word : Command → List ℕ
word command.Verify = codes "verify"
word command.Report = codes "report"
word command.List = codes "list"
word command.Info = codes "info"

-- the words are a command and the name of a file
abbrev pub Asks : List (List ℕ) → Command → List ℕ → Type 0
Asks words command name = words ≡ word command ∷ name ∷ []

-- the words are `check` and the names of a file and of a report
abbrev pub AsksCheck : List (List ℕ) → List ℕ → List ℕ → Type 0
AsksCheck words name report = words ≡ codes "check" ∷ name ∷ report ∷ []

-- the words name a module of so many functions that is made from a number: a word, and both numbers in decimal
abbrev pub AsksNumbers : List ℕ → List (List ℕ) → ℕ → ℕ → Type 0
AsksNumbers first words functions number =
    (words ≡ first ∷ decimal functions ∷ decimal number ∷ []) × (1 ≤ functions) × (functions ≤ 65536) × (number < 2 ^ 64)

-- the words ask for the module's bytes
abbrev pub AsksModule : List (List ℕ) → ℕ → ℕ → Type 0
AsksModule words functions number = AsksNumbers (codes "make") words functions number

-- the words ask for a test with the module
abbrev pub AsksTest : List (List ℕ) → ℕ → ℕ → Type 0
AsksTest words functions number = AsksNumbers (codes "selftest") words functions number

-- the words are a form of the program
pub data IsForm (words : List (List ℕ)) : Type 0 where
  of_file : (command : Command) (name : List ℕ) → Asks words command name → IsForm words
  of_files : (name report : List ℕ) → AsksCheck words name report → IsForm words
  of_numbers : (functions number : ℕ) → AsksModule words functions number → IsForm words
  of_test : (functions number : ℕ) → AsksTest words functions number → IsForm words

-- the status and the text that answer words without a file
pub data WithoutFile (words : List (List ℕ)) : ℕ → List ℕ → Type 0 where
  usage : (IsForm words → ⊥) → WithoutFile words 3 usage_line
  generated : (functions number : ℕ) → AsksModule words functions number → WithoutFile words 0 (made_file functions number)
  tested : (functions number status : ℕ) (text : List ℕ) → AsksTest words functions number → SelfTested functions number status text → WithoutFile words status text

-- the bytes are those of the file, where these are told
abbrev pub AreTold : Option (List ℕ) → List ℕ → Type 0
AreTold told file = IfSome told (λ bytes. file ≡ bytes)

-- A call of the shelf failed, which is counted, while the file of this name was read.
abbrev pub ReadFailed : ℕ → ℕ → Option (List ℕ) → Bool → List ℕ → Type 0
ReadFailed faults_before faults opened failed name = Rose faults_before faults × (opened ≡ Some name) × (failed ≡ true)

-- The status and the text that answer a report on a module, where its bytes may be told and the read of it may have failed.
pub data ReportAnswered (m : Module) (told : Option (List ℕ)) (fault : Type 0) : ℕ → List ℕ → Type 0 where
  report_unread : fault → ReportAnswered m told fault 4 read_fault_line
  report_read : (report : List ℕ) (status : ℕ) (text : List ℕ) → AreTold told report → Checked m report status text → ReportAnswered m told fault status text

-- The same for the bytes of a file: the report counts where they are a module.
pub data FileAnswered (file : List ℕ) (told : Option (List ℕ)) (fault : Type 0) : ℕ → List ℕ → Type 0 where
  no_module : (rule offset : ℕ) → module_fault file ≡ Some (rule, offset) → FileAnswered file told fault 2 (malformed_line rule offset)
  of_module : (status : ℕ) (text : List ℕ) → module_fault file ≡ None → ReportAnswered (declared_module file) told fault status text → FileAnswered file told fault status text

-- The status and the text that answer `check` on a file and a report of these names.
pub data CheckAnswered (told : List ℕ → Option (List ℕ)) (fault : List ℕ → Type 0) (name report : List ℕ) : ℕ → List ℕ → Type 0 where
  file_unread : fault name → CheckAnswered told fault name report 4 read_fault_line
  file_read : (file : List ℕ) (status : ℕ) (text : List ℕ) → AreTold (told name) file → FileAnswered file (told report) (fault report) status text → CheckAnswered told fault name report status text

-- The status and the text that answer these words. `told` are the bytes of the file of each name, where
-- told, and `fault` says that the read of a name failed.
pub data Reply (words : List (List ℕ)) (told : List ℕ → Option (List ℕ)) (fault : List ℕ → Type 0) : ℕ → List ℕ → Type 0 where
  without_file : (status : ℕ) (text : List ℕ) → WithoutFile words status text → Reply words told fault status text
  read_fault : (command : Command) (name : List ℕ) → Asks words command name → fault name → Reply words told fault 4 read_fault_line
  answered : (command : Command) (name file : List ℕ) (status : ℕ) (text : List ℕ) → Asks words command name → AreTold (told name) file → Answered command file status text → Reply words told fault status text
  checked : (name report : List ℕ) (status : ℕ) (text : List ℕ) → AsksCheck words name report → CheckAnswered told fault name report status text → Reply words told fault status text
