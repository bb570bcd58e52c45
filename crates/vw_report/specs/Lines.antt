-- The lines of a report: a first line, a line for each function and each of its points, and a last line.
use Rattle.std.specs.Prelude.{ℕ, List, [], ◌∷◌, ◌++◌, codes}
use Rattle.std.specs.List.{flat_map}
use Rattle.vw_bits.specs.Numerals.{hex_text}
use Rattle.vw_domain.specs.declared.state_parts.StateParts.{StateParts}
use Rattle.vw_report.specs.ValueText.{word_text}
use Rattle.vw_report.specs.StateText.{state_text}

-- a point of a function, by its offset, with the parts of its state
pub record ListedPoint : Type 0 where
  pub at : ℕ
  pub parts : StateParts

-- a function, by its entry, with its points
pub record ListedFunction : Type 0 where
  pub entry : ℕ
  pub points : List ListedPoint

-- a text as a line
abbrev pub line : List ℕ → List ℕ
line text = text ++ 10 ∷ []

-- a point: its offset in the function, in eight digits, and the fields of its state
abbrev pub point_line : ListedPoint → List ℕ
point_line point = line (codes "at " ++ (hex_text point.at 8 ++ state_text point.parts))

-- a function: its entry
abbrev pub entry_line : ℕ → List ℕ
entry_line entry = line (codes "function " ++ word_text entry)

-- and its points
abbrev pub function_lines : ListedFunction → List ℕ
function_lines function = entry_line function.entry ++ flat_map point_line function.points

abbrev pub first_line : List ℕ
first_line = line (codes "veriwasm report 1")

abbrev pub last_line : List ℕ
last_line = line (codes "end")

unfoldable pub report_text : List ListedFunction → List ℕ
report_text functions = first_line ++ (flat_map function_lines functions ++ last_line)
