use Rattle.vw_app.proofs.Least.{read_is}
use Rattle.vw_app.proofs.Listings.{function_listed}
use Rattle.vw_app.proofs.Texts.{OnOk-map}
use Rattle.vw_app.proofs.listing.push_function.Goals as goal

pub returns : goal.returns
returns g c = λ f is.
    let m = c.args.loaded.now in
    let read = c.index-as_slice-number.result in
    let same = read_is m.functions c.as_slice.result.now c.args.number read f c.as_slice.ensures c.index-as_slice-number.is is in
    OnOk-map c.push_points.result
    (function_listed m read f c.in_ok-rounds.field-0 c.last_table-table.result c.code_of-code.result.now c.as_slice-3.result.now same c.last_table-table.ensures c.code_of-code.ensures.code c.as_slice-3.ensures (c.in_ok-rounds.ensures.rounds f is)
    c.as_slice-2.result.now c.args.text.now c.push_name_line.new.text c.push_points.new.text c.as_slice-2.ensures c.in_ok-push_name_line.ensures)
    c.push_points.ensures
