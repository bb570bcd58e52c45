-- The code of a function, and where instructions begin in it.
use Rattle.std.specs.Prelude.{◌≡◌, ℕ, ◌+◌, ◌<◌, ◌≤◌, List, [], length, take, drop, unwrap_or}
use Rattle.vw_image.specs.Image.{Contents}
use Rattle.vw_image.specs.Words.{bytes_at}
use Rattle.vw_insn.specs.declared.instruction.Insn.{Insn}
use Rattle.vw_rows.specs.Spelling.{Spells}
use Rattle.std.specs.List.{AllByRecursion}
use Rattle.vw_stmt.specs.Lifted.{IsLifted}
use Rattle.vw_lift.specs.Lifted.{lifted}
use Rattle.vw_state.specs.declared.edges.PointInsn.{PointInsn}

-- The bytes of the file for `size` bytes from an entry on. There are none where these are not in the file
-- part of one segment.
unfoldable pub code_at : Contents → ℕ → ℕ → List ℕ
code_at image entry size = unwrap_or (bytes_at image entry size) []

-- The bytes of the code from this point on begin with a spelling of the instruction, `len` bytes long.
pub record BeginsAt (code : List ℕ) (point : ℕ) (i : Insn) (len : ℕ) : Type 0 where
  pub inside : point + len ≤ length code
  pub spelled : Spells (take len (drop point code)) i

-- no instruction begins at this point
abbrev pub NothingAt : List ℕ → ℕ → Type 0
NothingAt code point = (i : Insn) (len : ℕ) → BeginsAt code point i len → ⊥

-- This instruction begins here, and no other.
pub record StandsAlone (code : List ℕ) (at : ℕ) (i : Insn) (len : ℕ) : Type 0 where
  pub begins : BeginsAt code at i len
  pub some : 0 < len
  pub alone : (other : Insn) (other_len : ℕ) → BeginsAt code at other other_len → (other ≡ i) × (other_len ≡ len)

-- It begins at its point of this code, and its statements are those that it is lifted to.
pub record IsPointInsn (code : List ℕ) (p : PointInsn) : Type 0 where
  pub stands : StandsAlone code p.at p.insn.now p.len
  pub lifted : p.stmts.now ≡ lifted p.insn.now
  pub fields : AllByRecursion IsLifted p.stmts.now
