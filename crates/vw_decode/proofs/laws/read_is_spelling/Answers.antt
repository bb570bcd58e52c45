use Rattle.std.proofs.Common.{refl}
use Rattle.vw_decode.specs.Lexing.{insn_found}
use Rattle.vw_decode.proofs.Whole.{none_spelled, none_read, read_spells, one_answer, read_length}
use Rattle.vw_decode.proofs.laws.read_is_spelling.Goals as goal

pub returns-clause-none : goal.returns-clause-none
returns-clause-none c = λ bytes fits. (λ e n insn s. none_spelled bytes n insn e s, λ none. none_read bytes fits none)

pub returns-clause-found : goal.returns-clause-found
returns-clause-found c = λ bytes f fits e. read_spells bytes f (insn_found f) fits e refl

pub returns-clause-size : goal.returns-clause-size
returns-clause-size c = λ bytes f e. read_length bytes f e

pub returns-clause-only : goal.returns-clause-only
returns-clause-only c = λ bytes f n insn e le s. one_answer bytes f n insn e le s
