use Rattle.std.proofs.Common.{ap}
use Rattle.vw_domain.specs.Cells.{register_word}
use Rattle.vw_domain.proofs.CellLemmas.{register_stands}
use Rattle.vw_domain.proofs.cells.Cell.of.Goals as goal

pub invariant_of-result : goal.invariant_of-result
invariant_of-result c = rw c.register_word.ensures (ap register_word (register_stands c.args.register))

pub returns : goal.returns
returns c = rw c.register_word.ensures (register_stands c.args.register)
