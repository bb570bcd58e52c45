-- The effect of each instruction is a run of its statements.
use Rattle.vw_insn.specs.declared.instruction.Insn.{Insn}
use Rattle.vw_insn.specs.declared.instruction.Insn.TheVariants as insn
use Rattle.vw_insn.specs.Listed.{IsListed}
use Rattle.vw_lift.specs.Lifted.{lifted}
use Rattle.vw_lift.specs.Simulation.{IsRunOf}
use Rattle.vw_lift.proofs.MoveRuns as moves
use Rattle.vw_lift.proofs.ArithmeticRuns as arithmetic
use Rattle.vw_lift.proofs.XmmRuns as xmm

pub simulates : (i : Insn) → IsListed i → IsRunOf (lifted i) i
simulates (insn.Alu op w dst src) is loads stores next registers flags bytes choice l words = arithmetic.alu_op loads stores next registers flags bytes choice words l op w dst src
simulates (insn.Push src) is loads stores next registers flags bytes choice l words = moves.push loads stores next registers flags bytes choice src is
simulates (insn.Pop dst) is loads stores next registers flags bytes choice l words = moves.pop loads stores next registers flags bytes choice dst
simulates (insn.Extend signed from to dst src) is loads stores next registers flags bytes choice l words = moves.extend loads stores next registers flags bytes choice signed from to dst src is.0
simulates (insn.Imul w dst src imm) is loads stores next registers flags bytes choice l words = arithmetic.imul loads stores next registers flags bytes choice words w dst src imm
simulates (insn.Jcc cond rel) is loads stores next registers flags bytes choice l words = moves.jcc loads stores next registers flags bytes choice cond rel
simulates (insn.Jump rel) is loads stores next registers flags bytes choice l words = moves.jump loads stores next registers flags bytes choice rel
simulates (insn.Call rel) is loads stores next registers flags bytes choice l words = moves.call loads stores next registers flags bytes choice rel
simulates insn.Ret is loads stores next registers flags bytes choice l words = moves.ret loads stores next registers flags bytes choice
simulates insn.Leave is loads stores next registers flags bytes choice l words = moves.leave loads stores next registers flags bytes choice
simulates (insn.CallInd src) is loads stores next registers flags bytes choice l words = moves.call_ind loads stores next registers flags bytes choice src is
simulates (insn.JumpInd src) is loads stores next registers flags bytes choice l words = moves.jump_ind loads stores next registers flags bytes choice src is
simulates (insn.Test w a b) is loads stores next registers flags bytes choice l words = arithmetic.test loads stores next registers flags bytes choice w a b
simulates (insn.Xchg w a b) is loads stores next registers flags bytes choice l words = moves.xchg loads stores next registers flags bytes choice words w a b
simulates (insn.Mov w dst src) is loads stores next registers flags bytes choice l words = moves.mov loads stores next registers flags bytes choice words l w dst src
simulates (insn.MovImm64 dst imm) is loads stores next registers flags bytes choice l words = moves.movimm loads stores next registers flags bytes choice dst imm
simulates (insn.Lea w dst mem) is loads stores next registers flags bytes choice l words = moves.lea loads stores next registers flags bytes choice words w dst mem
simulates insn.Nop is loads stores next registers flags bytes choice l words = moves.nop loads stores next registers flags bytes choice
simulates (insn.Widen w) is loads stores next registers flags bytes choice l words = moves.widen loads stores next registers flags bytes choice words w
simulates (insn.SignA w) is loads stores next registers flags bytes choice l words = moves.sign loads stores next registers flags bytes choice words w
simulates (insn.Shift op w dst by) is loads stores next registers flags bytes choice l words = arithmetic.shift_op loads stores next registers flags bytes choice words op w dst by
simulates (insn.Unary op w dst) is loads stores next registers flags bytes choice l words = arithmetic.unary_op loads stores next registers flags bytes choice words op w dst
simulates (insn.MulDiv op w src) is loads stores next registers flags bytes choice l words = arithmetic.muldiv loads stores next registers flags bytes choice words op w src
simulates insn.Ud2 is loads stores next registers flags bytes choice l words = moves.ud2 loads stores next registers flags bytes choice
simulates (insn.Cmov cond w dst src) is loads stores next registers flags bytes choice l words = moves.cmov loads stores next registers flags bytes choice cond w dst src
simulates (insn.Set cond dst) is loads stores next registers flags bytes choice l words = moves.set loads stores next registers flags bytes choice words cond dst
simulates (insn.Bits op w dst src) is loads stores next registers flags bytes choice l words = arithmetic.bits_op loads stores next registers flags bytes choice words op w dst src
simulates (insn.Bt w a bit) is loads stores next registers flags bytes choice l words = arithmetic.bt loads stores next registers flags bytes choice w a bit
simulates (insn.Bswap w dst) is loads stores next registers flags bytes choice l words = moves.bswap loads stores next registers flags bytes choice words w dst
simulates insn.Endbr is loads stores next registers flags bytes choice l words = moves.endbr loads stores next registers flags bytes choice
simulates (insn.Xmm row wide reg rm imm) is loads stores next registers flags bytes choice l words = xmm.xmm_op loads stores next registers flags bytes choice row wide reg rm imm is.0 is.1
