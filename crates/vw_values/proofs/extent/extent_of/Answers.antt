use Rattle.std.proofs.Common.{refl}
use Rattle.vw_values.proofs.extent.extent_of.Goals as goal

pub returns-in-Both : goal.returns-in-Both
returns-in-Both c = rw c.in-Both.is refl
