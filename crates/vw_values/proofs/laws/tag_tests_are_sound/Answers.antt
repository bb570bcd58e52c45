use Rattle.vw_values.proofs.GreaterValues.{tags-type, tags-mark}
use Rattle.vw_values.proofs.laws.tag_tests_are_sound.Goals as goal

pub returns : goal.returns
returns c = record { addresses = tags-type; indices = tags-mark }
