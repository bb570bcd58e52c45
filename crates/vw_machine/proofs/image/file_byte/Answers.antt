use Rattle.std.proofs.Common.{sym}
use Rattle.vw_machine.proofs.ImageLemmas.{past_file}
use Rattle.vw_machine.proofs.image.file_byte.Goals as goal

pub returns-in-None : goal.returns-in-None
returns-in-None c = past_file c.args.module.now.image c.args.place (sym c.in-None.ensures)
