-- What it is that bytes spell an instruction.
use Rattle.std.specs.Prelude.{◌≡◌, ℕ, List}
use Rattle.vw_insn.specs.declared.registers.Width.{Width}
use Rattle.vw_insn.specs.declared.instruction.Insn.{Insn}
use Rattle.vw_rows.specs.declared.forms.Row.{Row}
use Rattle.vw_rows.specs.Numbers.{IsBytes}
use Rattle.vw_rows.specs.Parts.{Parts, bytes_of}
use Rattle.vw_rows.specs.Layout.{IsLaid}
use Rattle.vw_rows.specs.Meaning.{insn_of}

-- The whole list of bytes is one spelling of the instruction (SDM volume 2, chapter 2): it is the bytes of
-- some parts, which some row lays out so at some width, and which are the instruction by that row.
pub record Spells (bytes : List ℕ) (insn : Insn) : Type 0 where
  pub parts : Parts
  pub row : Row
  pub width : Width
  pub laid : IsLaid parts row width
  pub meant : insn_of row width parts ≡ insn
  pub spelled : bytes ≡ bytes_of parts
  pub are_bytes : IsBytes bytes
