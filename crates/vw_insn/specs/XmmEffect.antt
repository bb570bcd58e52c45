-- What instructions on XMM registers do to memory, general registers and flags. The XMM registers themselves are no
-- part of the machine, so that all that comes from them is open (SDM volume 2, "Operation" of each).
use Rattle.std.specs.Prelude.{ℕ, ◌+◌, ◌*◌, ◌%◌, ◌^◌, Bool, true, false}
use Rattle.vw_insn.specs.declared.operands.XmmOperand.{XmmOperand}
use Rattle.vw_insn.specs.declared.operands.XmmOperand.TheVariants as operand
use Rattle.vw_insn.specs.declared.xmm.XmmRole.{XmmRole}
use Rattle.vw_insn.specs.declared.xmm.XmmRole.TheVariants as role
use Rattle.vw_insn.specs.Words.{Registers, Flags, put}

-- the bytes of a store: those of two chosen numbers, the least significant first, as many as it has
abbrev pub stored_bytes : ℕ → (ℕ → ℕ) → ℕ
stored_bytes size numbers = (numbers 0 + 2 ^ 64 * numbers 1) % 256 ^ size

-- a general register in which x was written: 64 bits, or 32 that clear the upper half (SDM volume 1, 3.4.1.1)
abbrev pub by_wide : Bool → ℕ → ℕ
by_wide true x = x
by_wide false x = x % 2 ^ 32

-- The general registers after it: conversions to integers write the one of the reg field, and a move to the second
-- operand writes that where it is a register.
abbrev pub xmm_registers : XmmRole → Bool → ℕ → XmmOperand → Registers → ℕ → Registers
xmm_registers role.ToGeneral wide reg rm registers chosen = put registers reg (by_wide wide chosen)
xmm_registers role.MoveToGeneral wide reg (operand.Reg n) registers chosen = put registers n (by_wide wide chosen)
xmm_registers _ wide reg rm registers chosen = registers

-- The flags after it: comparisons set them, the others leave them.
abbrev pub xmm_flags : XmmRole → Flags → Flags → Flags
xmm_flags role.Compare flags chosen = chosen
xmm_flags _ flags chosen = flags
