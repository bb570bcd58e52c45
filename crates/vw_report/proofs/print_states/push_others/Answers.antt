use Rattle.std.proofs.Common.{◌++◌}
use Rattle.std.specs.Prelude.{codes}
use Rattle.vw_names.specs.declared.spot.Spot.TheVariants.{Reg}
use Rattle.vw_report.specs.ValueText.{place_text}
use Rattle.vw_report.proofs.Pieces.{each_piece, all_pieces}
use Rattle.vw_report.proofs.print_states.push_others.Goals as goal

pub loop-place-preserved : goal.loop-place-preserved
loop-place-preserved c =
    each_piece (λ place. codes "=" ++ place_text place) c.args.text.now c.loop-place.text c.push_further.new.text c.args.places.now c.loop-place.place-index (Reg 0) c.loop-place-test.true c.loop-place.invariant c.in_ok-push_further.ensures

pub returns : goal.returns
returns c = all_pieces (λ place. codes "=" ++ place_text place) c.args.text.now c.loop-place.text c.args.places.now c.loop-place.place-index c.loop-place-test.false c.loop-place.invariant
