-- The listing of a module: the points to which control can come, function by function, each with what begins there.
use Rattle.std.specs.Prelude.{◌≡◌, ℕ, ◌+◌, List, [], ◌∷◌, ◌++◌, length, take, drop, codes}
use Rattle.std.specs.List.{flat_map}
use Rattle.vw_bits.specs.Numerals.{hex_text}
use Rattle.vw_insn.specs.declared.instruction.Insn.{Insn}
use Rattle.vw_insn.specs.Text.{insn_text}
use Rattle.vw_layout.specs.declared.layout.Module.{Module}
use Rattle.vw_state.specs.declared.tables.PointState.{PointState}
use Rattle.vw_state.specs.Code.{BeginsAt, NothingAt}
use Rattle.vw_state.specs.Context.{Context, code_of, context_of}
use Rattle.vw_state.specs.Rounds.{IsLeast}
use Rattle.vw_app.specs.Lines.{line, name_text}

-- a text for each of these, in their order, one behind the other
pub data AreTexts {X : Type 0} (IsText : X → List ℕ → Type 0) : List X → List ℕ → Type 0 where
  none : AreTexts IsText [] []
  one : (x : X) (xs : List X) (text more : List ℕ) → IsText x text → AreTexts IsText xs more → AreTexts IsText (x ∷ xs) (text ++ more)

-- an offset from a function's first byte
abbrev pub offset_text : ℕ → List ℕ
offset_text at = codes "+0x" ++ hex_text at 1

-- a byte in two digits
abbrev pub byte_text : ℕ → List ℕ
byte_text b = hex_text b 2

-- an instruction at a point: its bytes, and its text
abbrev pub instruction_line : ℕ → List ℕ → Insn → List ℕ
instruction_line at bytes i = line (offset_text at ++ codes " " ++ flat_map byte_text bytes ++ codes " " ++ insn_text i (at + length bytes))

-- a point where no instruction begins
abbrev pub empty_line : ℕ → List ℕ
empty_line at = line (offset_text at ++ codes " ?")

-- the line of a point of some code
pub data IsPointLine (code : List ℕ) (at : ℕ) : List ℕ → Type 0 where
  begins : (i : Insn) (len : ℕ) → BeginsAt code at i len → IsPointLine code at (instruction_line at (take len (drop at code)) i)
  nothing : NothingAt code at → IsPointLine code at (empty_line at)

-- the line that names a function
abbrev pub name_line : List ℕ → List ℕ
name_line name = line (codes "function " ++ name_text name)

-- a function's name, and the points of its least table, ascending
pub record IsFunctionListing (f : Context) (name text : List ℕ) : Type 0 where
  pub table : List PointState
  pub least : IsLeast f table
  pub points : List ℕ
  pub lines : AreTexts (λ p. IsPointLine (code_of f) p.at) table points
  pub is : text ≡ name_line name ++ points

-- the declared functions of a module, by address
abbrev pub IsListing : Module → List ℕ → Type 0
IsListing m = AreTexts (λ f. IsFunctionListing (context_of m f) f.name) m.functions

-- a text has grown by a piece of which this holds
pub record Appends (Holds : List ℕ → Type 0) (old new : List ℕ) : Type 0 where
  pub piece : List ℕ
  pub holds : Holds piece
  pub is : new ≡ old ++ piece
