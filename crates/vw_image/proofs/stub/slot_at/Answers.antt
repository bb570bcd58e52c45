use Rattle.vw_image.proofs.Stubs.{first_stands, second_stands, third_stands}
use Rattle.vw_image.proofs.stub.slot_at.Goals as goal

pub returns-in-Some : goal.returns-in-Some
returns-in-Some c = first_stands c.args.bytes.now c.args.segments.now c.args.address c.in-Some.slot c.in-Some.ensures

pub returns-in-Some-slot_behind : goal.returns-in-Some-slot_behind
returns-in-Some-slot_behind c = second_stands c.args.bytes.now c.args.segments.now c.args.address c.in-Some-slot_behind.slot c.in_default.ensures c.in-Some-slot_behind.ensures

pub returns : goal.returns
returns c = third_stands c.args.bytes.now c.args.segments.now c.args.address c.slot_behind-3.result c.in_default.ensures c.in_default-slot_behind.ensures c.slot_behind-3.ensures
