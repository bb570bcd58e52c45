use Rattle.vw_values.proofs.Meets.{whole-greatest, half-greatest}
use Rattle.vw_values.proofs.laws.below_is_greatest.Goals as goal

pub returns : goal.returns
returns c = record { whole = whole-greatest; half = half-greatest }
