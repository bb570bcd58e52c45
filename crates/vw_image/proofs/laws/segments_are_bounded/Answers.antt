use Rattle.vw_bits.proofs.BoundLemmas.{AreBounded-from_rules}
use Rattle.vw_image.proofs.laws.segments_are_bounded.Goals as goal

pub returns : goal.returns
returns c = AreBounded-from_rules
