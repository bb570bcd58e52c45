use Rattle.std.proofs.Common.{arith}
use Rattle.vw_app.specs.Listing.{IsPointLine, empty_line, nothing}
use Rattle.vw_app.proofs.Texts.{OnOk-map, appends}
use Rattle.vw_app.proofs.Listings.{instruction_stands, stands_inside}
use Rattle.vw_app.proofs.listing.push_point.Goals as goal

pub push_instruction-requires-clause-near : goal.push_instruction-requires-clause-near
push_instruction-requires-clause-near c =
    omega (arith, c.requires, stands_inside c.args.code.now c.args.at c.in-Some.insn c.in-Some.len c.part.result.now c.in-Some.ensures.found c.part.ensures)

pub returns-in-Some : goal.returns-in-Some
returns-in-Some c =
    OnOk-map c.push_instruction.result
    (instruction_stands c.args.code.now c.args.at c.in-Some.insn c.in-Some.len c.part.result.now c.args.text.now c.push_instruction.new.text c.in-Some.ensures.found c.part.ensures)
    c.push_instruction.ensures

pub returns-in-None : goal.returns-in-None
returns-in-None c =
    OnOk-map c.push_empty.result
    (appends (IsPointLine c.args.code.now c.args.at) c.args.text.now c.push_empty.new.text (empty_line c.args.at) (nothing c.in-None.ensures.none))
    c.push_empty.ensures
