-- Which of two spellings of an instruction comes first.
use Rattle.std.specs.Prelude.{◌≡◌, ◌⊎◌, ℕ, ◌+◌, ◌<◌, ◌==◌, if◌then◌else◌, Option, None, Some, List}
use Rattle.vw_insn.specs.declared.instruction.Insn.{Insn}
use Rattle.vw_rows.specs.declared.patterns.Prefix.{Prefix}
use Rattle.vw_rows.specs.declared.patterns.Prefix.TheVariants.{Plain, P66, PF2, PF3}
use Rattle.vw_rows.specs.Parts.{Modrm, Parts, mode, scale}
use Rattle.vw_rows.specs.Layout.{digit_of}
use Rattle.vw_rows.specs.Spelling.{Spells}

-- mod of ModRM, and 3 where there is none
abbrev pub mode_of : Option Modrm → ℕ
mode_of None = 3
mode_of (Some m) = mode m.byte

-- the scale of the SIB, where there is one
abbrev pub scale_in : Option ℕ → Option ℕ
scale_in None = None
scale_in (Some sib) = Some (scale sib)

abbrev pub scale_of : Option Modrm → Option ℕ
scale_of None = None
scale_of (Some m) = scale_in m.sib

-- 66, of a row that has it for the width, after none
abbrev pub prefix_rank : Prefix → ℕ
prefix_rank Plain = 0
prefix_rank P66 = 1
prefix_rank PF2 = 0
prefix_rank PF3 = 0

-- nothing, then a number
abbrev pub rank_of : Option ℕ → ℕ
rank_of None = 0
rank_of (Some n) = n + 1

-- a register, then memory with mod 0, 1 and 2: with the same base these have no displacement, one
-- byte of it and four
abbrev pub mode_rank : ℕ → ℕ
mode_rank m = if m == 3 then 0 else m + 1

-- less, or the same and then
abbrev pub Then : ℕ → ℕ → Type 0 → Type 0
Then a b later = (a < b) ⊎ ((a ≡ b) × later)

-- Of two spellings by one row the one without 66; without REX, or with the lesser bits of REX;
-- without SIB, or with the lesser scale; with the shorter displacement; with the lesser reg field.
abbrev pub PartsBefore : Parts → Parts → Type 0
PartsBefore p q =
    Then (prefix_rank p.prefix) (prefix_rank q.prefix)
    (Then (rank_of p.rex) (rank_of q.rex)
    (Then (rank_of (scale_of p.modrm)) (rank_of (scale_of q.modrm))
    (Then (mode_rank (mode_of p.modrm)) (mode_rank (mode_of q.modrm))
    (digit_of p.modrm < digit_of q.modrm))))

-- by an earlier row, or before it by the same row
abbrev pub IsBefore : {a b : List ℕ} {i j : Insn} → Spells a i → Spells b j → Type 0
IsBefore s t = Then s.row.number t.row.number (PartsBefore s.parts t.parts)

-- each other spelling of the instruction comes later
pub record IsFirst (bytes : List ℕ) (insn : Insn) : Type 0 where
  pub spelled : Spells bytes insn
  pub first : (other : List ℕ) (t : Spells other insn) → (other ≡ bytes) ⊎ IsBefore spelled t
