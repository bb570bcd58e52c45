use Rattle.vw_rows.proofs.SpelledListed.{spelled_listed}
use Rattle.vw_rows.proofs.spelling.spelled_is_listed.Goals as goal

pub returns : goal.returns
returns c = λ bytes insn s. spelled_listed bytes insn s
