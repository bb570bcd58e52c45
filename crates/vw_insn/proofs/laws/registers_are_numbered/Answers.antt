use Rattle.vw_insn.proofs.RegisterNumbers.{number_register, register_number}
use Rattle.vw_insn.proofs.laws.registers_are_numbered.Goals as goal

pub returns : goal.returns
returns c = record { number = number_register; register = register_number }
