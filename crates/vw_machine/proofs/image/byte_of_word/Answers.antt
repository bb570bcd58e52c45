use Rattle.std.proofs.Common.{ℕ, ◌/◌, ◌%◌, ap, sym}
use Rattle.vw_machine.proofs.Numbers.{power}
use Rattle.vw_machine.proofs.image.byte_of_word.Goals as goal

pub returns : goal.returns
returns c = ap (λ (d : ℕ). c.args.word / d % 256) (sym (power c.args.k))
