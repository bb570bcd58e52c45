use Rattle.vw_rows.specs.Lookup.{key}
use Rattle.vw_rows.proofs.Uniqueness.{row_found, row_only}
use Rattle.vw_rows.proofs.ReadLevels.{searched}
use Rattle.vw_rows.proofs.laws.row_search.Goals as goal

pub returns-clause-found : goal.returns-clause-found
returns-clause-found c =
    let k = key c.args.prefix c.args.map c.args.opcode c.args.digit c.args.register_form in
    row_found k c.first_match.result (searched k c.all_rows.result.now c.first_match.result c.all_rows.ensures c.first_match.ensures)

pub returns-clause-only : goal.returns-clause-only
returns-clause-only c =
    let k = key c.args.prefix c.args.map c.args.opcode c.args.digit c.args.register_form in
    row_only k c.first_match.result (searched k c.all_rows.result.now c.first_match.result c.all_rows.ensures c.first_match.ensures)
