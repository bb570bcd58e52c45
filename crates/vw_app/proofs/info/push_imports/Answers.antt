use Rattle.std.proofs.Common.{◌≤◌, ◌<◌, length, arith}
use Rattle.std.proofs.lemmas.Option.{get_or_from_slice_get}
use Rattle.vw_app.specs.Lines.{import_line}
use Rattle.vw_app.proofs.Pieces.{pieces2, each_numbered, all_numbered}
use Rattle.vw_app.proofs.info.push_imports.Goals as goal

pub loop-number-preserved : goal.loop-number-preserved
loop-number-preserved c =
    let inside : c.loop-number.number < length c.args.imports.now = omega (arith, c.len-count.ensures, c.loop-number-test.true) in
    each_numbered import_line c.push_count.new.text c.loop-number.text c.push_import.new.text c.args.imports.now c.loop-number.number c.name.result.now inside (get_or_from_slice_get c.args.imports.now c.loop-number.number c.name.result.now c.name.result.now c.name.ensures) c.loop-number.invariant c.in_ok-push_import.ensures

pub returns : goal.returns
returns c =
    let all : length c.args.imports.now ≤ c.loop-number.number = omega (arith, c.len-count.ensures, c.loop-number-test.false) in
    pieces2 c.args.text.now c.push_count.new.text c.loop-number.text _ _ (rw c.len-count.ensures at c.in_ok-push_count.ensures)
    (all_numbered import_line c.push_count.new.text c.loop-number.text c.args.imports.now c.loop-number.number all c.loop-number.invariant)
