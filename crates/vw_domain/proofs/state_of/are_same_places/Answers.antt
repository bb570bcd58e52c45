use Rattle.std.proofs.Common.{arith}
use Rattle.vw_names.specs.declared.spot.Spot.TheVariants.{Reg}
use Rattle.vw_names.specs.Spot.{number}
use Rattle.vw_domain.proofs.JoinedClasses.{image_at}
use Rattle.vw_domain.proofs.state_of.are_same_places.Goals as goal

pub returns-then-not-is_same_place-clause-apart : goal.returns-then-not-is_same_place-clause-apart
returns-then-not-is_same_place-clause-apart c = λ same.
    c.if-not-is_same_place.ensures.apart (image_at number c.args.a.now c.args.b.now c.loop-i.i (Reg 0) same (omega arith) (omega arith))
