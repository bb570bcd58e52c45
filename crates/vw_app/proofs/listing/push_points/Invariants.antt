use Rattle.std.proofs.Common.{take}
use Rattle.vw_app.specs.Listing.{AreTexts, Appends, IsPointLine}
use Rattle.vw_app.proofs.listing.push_points.Given as goal

abbrev pub invariant-loop-point : goal.invariant-loop-point
invariant-loop-point l = Appends (AreTexts (λ p. IsPointLine l.code p.at) (take l.point-index l.states)) l.initial.text l.text
