use Rattle.std.proofs.Common.{List, ℕ, sym}
use Rattle.vw_state.specs.declared.tables.PointState.{PointState}
use Rattle.vw_app.specs.Listing.{IsPointLine}
use Rattle.vw_app.proofs.Texts.{grows_none, grows_more, grows_all}
use Rattle.vw_app.proofs.listing.push_points.Goals as goal

abbrev IsLine : List ℕ → PointState → List ℕ → Type 0
IsLine code p = IsPointLine code p.at

pub loop-point-init : goal.loop-point-init
loop-point-init c = grows_none (IsLine c.args.code.now) c.args.states.now c.args.text.now

pub loop-point-preserved : goal.loop-point-preserved
loop-point-preserved c =
    grows_more (IsLine c.args.code.now) c.args.states.now c.loop-point.point-index c.point-item.result c.args.text.now c.loop-point.text c.push_point.new.text c.loop-point-test.true (sym c.point-item.is) c.loop-point.invariant c.in_ok-push_point.ensures

pub returns : goal.returns
returns c = grows_all (IsLine c.args.code.now) c.args.states.now c.loop-point.point-index c.args.text.now c.loop-point.text c.loop-point-test.false c.loop-point.invariant
