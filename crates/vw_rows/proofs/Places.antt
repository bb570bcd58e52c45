-- What holds of registers and of memory holds of the operands that a row names.
use Rattle.std.proofs.Common.{◌≡◌, ℕ, ◌+◌, ◌*◌, ◌%◌, ◌==◌, nat_lt, Bool, true, false}
use Rattle.std.proofs.Common.{Option, Some, None, refl, inl, inr}
use Rattle.std.proofs.lemmas.Bool.{cases_Bool}
use Rattle.vw_insn.specs.declared.registers.Reg.{Reg}
use Rattle.vw_insn.specs.declared.registers.Reg.TheVariants.{Rax}
use Rattle.vw_insn.specs.declared.registers.HighReg.{HighReg}
use Rattle.vw_insn.specs.declared.registers.Width.{Width}
use Rattle.vw_insn.specs.declared.registers.Width.TheVariants.{W8, W16, W32, W64}
use Rattle.vw_insn.specs.declared.operands.Place.{Place}
use Rattle.vw_insn.specs.declared.operands.Place.TheVariants as place
use Rattle.vw_insn.specs.Words.{register}
use Rattle.vw_insn.specs.Listed.{IsWord}
use Rattle.vw_rows.specs.declared.forms.Kind.{Kind}
use Rattle.vw_rows.specs.declared.forms.Operands.{Operands}
use Rattle.vw_rows.specs.declared.forms.Operands.TheVariants as ops
use Rattle.vw_rows.specs.Parts.{Modrm, Parts, mode, rm, rex_b}
use Rattle.vw_rows.specs.Shape.{high_register, has_rex, byte_register, register_place, memory_at}
use Rattle.vw_rows.specs.Shape.{rm_place, reg_number, rm_width, first_place, second_place}

-- ---- registers

byte_has :
    (P : Place → Type 0) → ((r : Reg) → P (place.Reg r)) → ((h : HighReg) → P (place.High h))
    → (b : Bool) (n : ℕ) → P (byte_register b n)
byte_has P low high true n = low (register n)
byte_has P low high false n = elim (cases_Bool (nat_lt n 4)) [
  | inl hit ↦ rw hit (low (register n))
  | inr miss ↦ rw miss (high (high_register n))
]

pub register_has :
    (P : Place → Type 0) → ((r : Reg) → P (place.Reg r)) → ((h : HighReg) → P (place.High h))
    → (w : Width) (rex : Option ℕ) (n : ℕ) → P (register_place w rex n)
register_has P low high W8 rex n = byte_has P low high (has_rex rex) n
register_has P low high W16 rex n = low (register n)
register_has P low high W32 rex n = low (register n)
register_has P low high W64 rex n = low (register n)

-- of 16 bits or more: none of ah, ch, dh, bh
pub word_has :
    (P : Place → Type 0) → ((r : Reg) → P (place.Reg r))
    → (w : Width) (rex : Option ℕ) (n : ℕ) → IsWord w → P (register_place w rex n)
word_has P low W8 rex n word = absurd word
word_has P low W16 rex n word = low (register n)
word_has P low W32 rex n word = low (register n)
word_has P low W64 rex n word = low (register n)

-- ---- the operands of a row; where there is none, that is rax

-- E
pub rm_has :
    (P : Place → Type 0) (w : Width) (rex : Option ℕ) (o : Option Modrm) → P (place.Reg Rax)
    → ((n : ℕ) → P (register_place w rex n))
    → ((m : Modrm) → o ≡ Some m → P (place.Mem (memory_at rex m)))
    → P (rm_place w rex o)
rm_has P w rex None rax register memory = rax
rm_has P w rex (Some m) rax register memory = elim (cases_Bool (mode m.byte == 3)) [
  | inl hit ↦ rw hit (register (rm m.byte + 8 * rex_b rex))
  | inr miss ↦ rw miss (memory m refl)
]

pub first_has :
    (P : Place → Type 0) (o : Operands) (k : Kind) (w : Width) (p : Parts) → P (place.Reg Rax)
    → ((n : ℕ) → P (register_place w p.rex n)) → P (rm_place (rm_width k w) p.rex p.modrm)
    → P (first_place o k w p)
first_has P ops.EG k w p rax register rm = rm
first_has P ops.GE k w p rax register rm = register (reg_number p.rex p.modrm)
first_has P ops.E k w p rax register rm = rm
first_has P ops.OpcodeReg k w p rax register rm = register (p.opcode % 8 + 8 * rex_b p.rex)
first_has P _ k w p rax register rm = rax

pub second_has :
    (P : Place → Type 0) (o : Operands) (k : Kind) (w : Width) (p : Parts) → P (place.Reg Rax)
    → ((n : ℕ) → P (register_place w p.rex n)) → P (rm_place (rm_width k w) p.rex p.modrm)
    → P (second_place o k w p)
second_has P ops.EG k w p rax register rm = register (reg_number p.rex p.modrm)
second_has P ops.GE k w p rax register rm = rm
second_has P _ k w p rax register rm = rax
