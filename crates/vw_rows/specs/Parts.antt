-- The parts of an instruction in their order (SDM volume 2, figure 2-1 and 2.2.1), the bytes that they
-- are, and the fields of its single bytes.
use Rattle.std.specs.Prelude.{ℕ, ◌+◌, ◌/◌, ◌%◌, ◌==◌, Bool, false, Option, None, Some, List, [], ◌∷◌, ◌++◌}
use Rattle.vw_rows.specs.declared.patterns.Prefix.{Prefix}
use Rattle.vw_rows.specs.declared.patterns.Prefix.TheVariants.{Plain, P66, PF2, PF3}
use Rattle.vw_rows.specs.declared.patterns.Map.{Map}
use Rattle.vw_rows.specs.declared.patterns.Map.TheVariants.{One, Two, Three}

-- ModRM, and the SIB and the displacement behind it (SDM volume 2, 2.1.3 and 2.1.4)
pub record Modrm : Type 0 where
  pub byte : ℕ
  pub sib : Option ℕ
  pub disp : List ℕ

-- The parts of an instruction. `rex` has the bits W, R, X and B of the REX byte, which are 8, 4, 2 and 1
-- (SDM volume 2, table 2-4), and `opcode` is the byte of the opcode map: the opcode's last byte, but of
-- F3 0F 1E FA the one before it. There the last byte is `imm`.
pub record Parts : Type 0 where
  pub prefix : Prefix
  pub rex : Option ℕ
  pub map : Map
  pub opcode : ℕ
  pub modrm : Option Modrm
  pub imm : List ℕ

-- the legacy prefix (SDM volume 2, 2.1.1). The processor takes one of each group; here there is one at most.
abbrev pub prefix_bytes : Prefix → List ℕ
prefix_bytes Plain = []
prefix_bytes P66 = 0x66 ∷ []
prefix_bytes PF2 = 0xF2 ∷ []
prefix_bytes PF3 = 0xF3 ∷ []

-- 40 to 4F
abbrev pub rex_bytes : Option ℕ → List ℕ
rex_bytes None = []
rex_bytes (Some bits) = (0x40 + bits) ∷ []

-- the opcode of one, two or three bytes (SDM volume 2, 2.1.2)
abbrev pub opcode_bytes : Map → ℕ → List ℕ
opcode_bytes One opcode = opcode ∷ []
opcode_bytes Two opcode = 0x0F ∷ opcode ∷ []
opcode_bytes Three opcode = 0x0F ∷ 0x3A ∷ opcode ∷ []

abbrev pub sib_bytes : Option ℕ → List ℕ
sib_bytes None = []
sib_bytes (Some sib) = sib ∷ []

abbrev pub modrm_bytes : Option Modrm → List ℕ
modrm_bytes None = []
modrm_bytes (Some m) = m.byte ∷ (sib_bytes m.sib ++ m.disp)

-- one after the other, REX directly before the opcode
abbrev pub bytes_of : Parts → List ℕ
bytes_of p = prefix_bytes p.prefix ++ (rex_bytes p.rex ++ (opcode_bytes p.map p.opcode ++ (modrm_bytes p.modrm ++ p.imm)))

-- the bits of REX; each is 0 where there is no REX (SDM volume 2, table 2-4)
abbrev pub rex_w : Option ℕ → Bool
rex_w None = false
rex_w (Some bits) = bits / 8 % 2 == 1

abbrev pub rex_r : Option ℕ → ℕ
rex_r None = 0
rex_r (Some bits) = bits / 4 % 2

abbrev pub rex_x : Option ℕ → ℕ
rex_x None = 0
rex_x (Some bits) = bits / 2 % 2

abbrev pub rex_b : Option ℕ → ℕ
rex_b None = 0
rex_b (Some bits) = bits % 2

-- the fields of ModRM (SDM volume 2, 2.1.3): mod, reg and r/m
abbrev pub mode : ℕ → ℕ
mode byte = byte / 64

abbrev pub reg : ℕ → ℕ
reg byte = byte / 8 % 8

abbrev pub rm : ℕ → ℕ
rm byte = byte % 8

-- the fields of SIB (SDM volume 2, 2.1.3)
abbrev pub scale : ℕ → ℕ
scale byte = byte / 64

abbrev pub index : ℕ → ℕ
index byte = byte / 8 % 8

abbrev pub base : ℕ → ℕ
base byte = byte % 8
