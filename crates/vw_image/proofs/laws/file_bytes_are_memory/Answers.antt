use Rattle.vw_image.proofs.Spelled.{lent}
use Rattle.vw_image.proofs.laws.file_bytes_are_memory.Goals as goal

pub returns : goal.returns
returns c = lent
