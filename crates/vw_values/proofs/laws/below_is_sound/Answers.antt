use Rattle.vw_values.proofs.Refining.{below-valid, below-rises, below-stands}
use Rattle.vw_values.proofs.laws.below_is_sound.Goals as goal

pub returns : goal.returns
returns c = record { valid = below-valid; rises = below-rises; stands = below-stands }
