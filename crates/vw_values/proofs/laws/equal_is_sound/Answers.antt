use Rattle.vw_values.proofs.Refining.{equal-valid, equal-rises, equal-stands}
use Rattle.vw_values.proofs.laws.equal_is_sound.Goals as goal

pub returns : goal.returns
returns c = record { valid = equal-valid; rises = equal-rises; stands = equal-stands }
