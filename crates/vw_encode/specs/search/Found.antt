-- What the search has found of a row.
use Rattle.std.specs.Prelude.{◌≡◌, ◌⊎◌, ◌<◌, ◌≤◌, ◌==◌, Bool, true, Option, MatchOption}
use Rattle.vw_insn.specs.declared.registers.Width.{Width}
use Rattle.vw_insn.specs.declared.instruction.Insn.{Insn}
use Rattle.vw_rows.specs.declared.forms.Row.{Row}
use Rattle.vw_rows.specs.Parts.{Parts, bytes_of}
use Rattle.vw_rows.specs.Layout.{IsLaid}
use Rattle.vw_rows.specs.Meaning.{insn_of}
use Rattle.vw_encode.specs.declared.buffer.Spelled.{Spelled}
use Rattle.vw_encode.specs.declared.candidate.Choice.{Choice}
use Rattle.vw_encode.specs.search.Buffer.{Holds}
use Rattle.vw_rows.specs.Rows.{rows}
use Rattle.vw_rows.specs.Lookup.{IsIn}
use Rattle.vw_encode.specs.search.Normal.{Normal, Without}
use Rattle.vw_encode.specs.search.Kinds.{kind_number, insn_number}
use Rattle.vw_encode.specs.Order.{mode_of, scale_of, rank_of, mode_rank, PartsBefore}

-- the buffer holds the parts, which are the instruction by the row
pub record Made (s : Spelled) (p : Parts) (row : Row) (w : Width) (insn : Insn) : Type 0 where
  pub laid : IsLaid p row w
  pub meant : insn_of row w p ≡ insn
  pub holds : Holds s (bytes_of p)

-- not after the choice
pub record AtMost (q : Parts) (c : Choice) : Type 0 where
  pub prefix : q.prefix ≡ c.prefix
  pub rex : q.rex ≡ c.rex
  pub scale : rank_of (scale_of q.modrm) ≤ rank_of c.scale
  pub mode : mode_rank (mode_of q.modrm) ≤ mode_rank c.mode

-- of the normal spellings by the row that have P the first, which has Q
pub record FirstOf (s : Spelled) (row : Row) (insn : Insn) (Q P : Parts → Type 0) : Type 0 where
  pub parts : Parts
  pub width : Width
  pub made : Made s parts row width insn
  pub at : Q parts
  pub first : (p : Parts) → Normal p row insn → P p → (p ≡ parts) ⊎ PartsBefore parts p

-- a row of the instruction's kind
abbrev pub is_candidate : Insn → Row → Bool
is_candidate insn r = kind_number r.kind == insn_number insn

-- of all rows of the instruction's kind the first that spells it, and its first spelling
pub record FoundIn (s : Spelled) (insn : Insn) : Type 0 where
  pub row : Row
  pub best : FirstOf s row insn (λ q. Unit {0}) (λ p. Unit {0})
  pub later : (r : Row) → IsIn r rows → is_candidate insn r ≡ true → (r ≡ row) ⊎ (row.number < r.number) ⊎ Without r insn (λ p. Unit {0})

abbrev pub Best : Option Spelled → Insn → Type 0
Best found insn = MatchOption found ((r : Row) → IsIn r rows → is_candidate insn r ≡ true → Without r insn (λ p. Unit {0})) (λ s. FoundIn s insn)
