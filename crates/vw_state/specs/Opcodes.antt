-- The opcodes at which an instruction has an immediate that counts among the bounds.
use Rattle.std.specs.Prelude.{ℕ, ◌/◌, ◌==◌, ◌||◌, Bool}

-- Opcodes of one byte (SDM volume 2, A.3): 24 and 25, AND of the accumulator; 3C and 3D, CMP of it; 80 to 83, the group
-- of AND and CMP; B0 to BF, MOV to a register; C6 and C7, MOV to an operand of ModRM.
abbrev pub is_counting : ℕ → Bool
is_counting o = (o / 16 == 0xB) || ((o / 4 == 0x20) || ((o / 2 == 0x12) || ((o / 2 == 0x1E) || (o / 2 == 0x63))))
