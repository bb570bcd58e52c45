use Rattle.vw_rows.specs.Lookup.{key}
use Rattle.vw_rows.proofs.Uniqueness.{row_found, row_only}
use Rattle.vw_rows.proofs.ReadLevels.{read_is}
use Rattle.vw_rows.proofs.lookup.row_of.Goals as goal

pub returns-clause-found : goal.returns-clause-found
returns-clause-found c =
    row_found (key c.args.prefix c.args.map c.args.opcode c.args.digit c.args.register_form) c.with_digit.result (read_is c.args.prefix c.args.map c.args.opcode c.args.digit c.args.register_form c.entry_at-entry.result c.row_of_entry.result c.with_digit.result c.entry_at-entry.ensures c.row_of_entry.ensures c.with_digit.ensures)

pub returns-clause-only : goal.returns-clause-only
returns-clause-only c =
    row_only (key c.args.prefix c.args.map c.args.opcode c.args.digit c.args.register_form) c.with_digit.result (read_is c.args.prefix c.args.map c.args.opcode c.args.digit c.args.register_form c.entry_at-entry.result c.row_of_entry.result c.with_digit.result c.entry_at-entry.ensures c.row_of_entry.ensures c.with_digit.ensures)
