-- The numbers of the general registers.
use Rattle.std.proofs.Common.{◌≡◌, ℕ, zero, suc, ◌<◌, refl, arith}
use Rattle.vw_insn.specs.declared.registers.Reg.{Reg}
use Rattle.vw_insn.specs.declared.registers.Reg.TheVariants.{Rax, Rcx, Rdx, Rbx, Rsp, Rbp, Rsi, Rdi, R8, R9, R10, R11, R12, R13, R14, R15}
use Rattle.vw_insn.specs.Words.{number, register}

pub number_register : (n : ℕ) → n < 16 → number (register n) ≡ n
number_register zero h = refl
number_register (suc zero) h = refl
number_register (suc (suc zero)) h = refl
number_register (suc (suc (suc zero))) h = refl
number_register (suc (suc (suc (suc zero)))) h = refl
number_register (suc (suc (suc (suc (suc zero))))) h = refl
number_register (suc (suc (suc (suc (suc (suc zero)))))) h = refl
number_register (suc (suc (suc (suc (suc (suc (suc zero))))))) h = refl
number_register (suc (suc (suc (suc (suc (suc (suc (suc zero)))))))) h = refl
number_register (suc (suc (suc (suc (suc (suc (suc (suc (suc zero))))))))) h = refl
number_register (suc (suc (suc (suc (suc (suc (suc (suc (suc (suc zero)))))))))) h = refl
number_register (suc (suc (suc (suc (suc (suc (suc (suc (suc (suc (suc zero))))))))))) h = refl
number_register (suc (suc (suc (suc (suc (suc (suc (suc (suc (suc (suc (suc zero)))))))))))) h = refl
number_register (suc (suc (suc (suc (suc (suc (suc (suc (suc (suc (suc (suc (suc zero))))))))))))) h = refl
number_register (suc (suc (suc (suc (suc (suc (suc (suc (suc (suc (suc (suc (suc (suc zero)))))))))))))) h = refl
number_register (suc (suc (suc (suc (suc (suc (suc (suc (suc (suc (suc (suc (suc (suc (suc zero))))))))))))))) h = refl
number_register (suc (suc (suc (suc (suc (suc (suc (suc (suc (suc (suc (suc (suc (suc (suc (suc n)))))))))))))))) h = absurd (omega arith)

pub register_number : (r : Reg) → register (number r) ≡ r
register_number Rax = refl
register_number Rcx = refl
register_number Rdx = refl
register_number Rbx = refl
register_number Rsp = refl
register_number Rbp = refl
register_number Rsi = refl
register_number Rdi = refl
register_number R8 = refl
register_number R9 = refl
register_number R10 = refl
register_number R11 = refl
register_number R12 = refl
register_number R13 = refl
register_number R14 = refl
register_number R15 = refl
